-- The words of what is said of a history. Transactions are told by their ids, keys and values by
-- their names.
use Rattle.std.specs.Prelude.{ℕ, ◌+◌, ◌++◌, Bool, true, false, List, [], ◌∷◌, codes, map, length, Option, Some, None, slice_get, option_map}
use Rattle.serde_json.specs.Data.{Data, Items, no_items, item, Members, no_members, member, boolean, number, unsigned, negative, string, null, array, object}
use Rattle.serde_json.specs.View.{items_of}
use Rattle.tx_types.specs.declared.fault.Cause.TheVariants.{Form}
use Rattle.tx_text.specs.Texts.{text_of, line_text}
use Rattle.tx_text.specs.Members.{reply_text}
use Rattle.tx_text.specs.Faults.{fault_words}
use Rattle.tx_verdict.specs.declared.anomaly.Anomaly.{Anomaly}
use Rattle.tx_verdict.specs.declared.anomaly.Anomaly.TheVariants.{G0, G1c, LostUpdate, GSingle, LongFork, GNonadjacent, G2Item}
use Rattle.tx_verdict.specs.declared.verdict.EdgeKind.{EdgeKind}
use Rattle.tx_verdict.specs.declared.verdict.EdgeKind.TheVariants.{Ww, Wr, Rw, So, Rt}
use Rattle.tx_verdict.specs.declared.verdict.Beside.{Beside}
use Rattle.tx_verdict.specs.declared.verdict.Beside.TheVariants.{Nothing, Processes, Clock}
use Rattle.tx_verdict.specs.declared.verdict.CycleStep.{CycleStep}
use Rattle.tx_verdict.specs.declared.verdict.Cycle.{Cycle}
use Rattle.tx_verdict.specs.declared.verdict.Rule.{Rule}
use Rattle.tx_verdict.specs.declared.verdict.Rule.TheVariants as rule
use Rattle.tx_verdict.specs.declared.verdict.Fact.{Fact}
use Rattle.tx_verdict.specs.declared.refutation.WriteOrder.{WriteOrder}
use Rattle.tx_verdict.specs.declared.refutation.Settled.{Settled}
use Rattle.tx_verdict.specs.declared.refutation.Hint.{Hint}
use Rattle.tx_verdict.specs.declared.refutation.Lemma.{Lemma}
use Rattle.tx_verdict.specs.declared.refutation.Refutation.{Refutation}
use Rattle.tx_verdict.specs.declared.verdict.HistoryVerdict.{HistoryVerdict}
use Rattle.tx_verdict.specs.declared.verdict.HistoryVerdict.TheVariants as verdict
use Rattle.tx_import.specs.declared.name.Name.{Name}
use Rattle.tx_import.specs.declared.name.Name.TheVariants.{Text, Number}
use Rattle.tx_import.specs.declared.name.Scalar.{Scalar}
use Rattle.tx_import.specs.declared.name.Scalar.TheVariants as scalar
use Rattle.tx_import.specs.declared.reader.NamedHistory.{NamedHistory}

-- a name, as it was read
abbrev pub name_data : Name → Data
name_data (Text s) = text_of s
name_data (Number n) = number (unsigned n)

-- a value, as it was read
abbrev pub scalar_data : Scalar → Data
scalar_data (scalar.Text s) = text_of s
scalar_data (scalar.Number n) = number (unsigned n)
scalar_data (scalar.Negative z) = number (negative z)
scalar_data (scalar.Truth b) = boolean b

-- what true and false are called
abbrev pub truth_word : Bool → List ℕ
truth_word true = codes "true"
truth_word false = codes "false"

-- the name of a number, null where it has none
abbrev pub or_null : Option Data → Data
or_null None = null
or_null (Some d) = d

abbrev pub key_data : NamedHistory → ℕ → Data
key_data h k = or_null (option_map name_data (slice_get h.tables.keys k))

abbrev pub value_data : NamedHistory → ℕ → Data
value_data h v = or_null (option_map (λ kv. scalar_data kv.value) (slice_get h.tables.values v))

abbrev pub process_data : NamedHistory → ℕ → Data
process_data h p = or_null (option_map name_data (slice_get h.tables.processes p))

-- the id of a transaction, null where there is none
abbrev pub id_data : NamedHistory → ℕ → Data
id_data h t = or_null (option_map (λ x. number (unsigned x.id)) (slice_get h.recording.transactions.items t))

-- what is not known is null
abbrev pub known_key : NamedHistory → Option ℕ → Data
known_key h None = null
known_key h (Some k) = key_data h k

abbrev pub known_value : NamedHistory → Option ℕ → Data
known_value h None = null
known_value h (Some v) = value_data h v

abbrev pub known_id : NamedHistory → Option ℕ → Data
known_id h None = null
known_id h (Some t) = id_data h t

-- the word of an edge
abbrev pub edge_word : EdgeKind → List ℕ
edge_word Ww = codes "ww"
edge_word Wr = codes "wr"
edge_word Rw = codes "rw"
edge_word So = codes "so"
edge_word Rt = codes "rt"

-- the name of the anomaly of a cycle
abbrev pub anomaly_word : Anomaly → List ℕ
anomaly_word G0 = codes "G0"
anomaly_word G1c = codes "G1c"
anomaly_word LostUpdate = codes "lost-update"
anomaly_word GSingle = codes "G-single"
anomaly_word LongFork = codes "long-fork"
anomaly_word GNonadjacent = codes "G-nonadjacent"
anomaly_word G2Item = codes "G2-item"

-- which order a cycle needs beside those of reads and writes
abbrev pub beside_word : Beside → List ℕ
beside_word Nothing = codes ""
beside_word Processes = codes "-process"
beside_word Clock = codes "-realtime"

-- the name of a cycle
abbrev pub cycle_word : Cycle → List ℕ
cycle_word c = anomaly_word c.anomaly ++ beside_word c.beside

-- the name of what one transaction read that cannot be
abbrev pub rule_word : Rule → List ℕ
rule_word rule.Internal = codes "internal"
rule_word rule.G1a = codes "G1a"
rule_word rule.G1b = codes "G1b"
rule_word rule.Unwritten = codes "unwritten"
rule_word rule.Unrepeatable = codes "unrepeatable"
rule_word rule.IncompatibleOrder = codes "incompatible-order"
rule_word rule.Duplicate = codes "duplicate"
rule_word rule.LostUpdate = codes "lost-update"

-- a step of a cycle: `[id,edge,key,id]`
abbrev pub step_data : NamedHistory → CycleStep → Data
step_data h s = array (item (id_data h s.from) (item (string (edge_word s.edge))
    (item (known_key h s.key) (item (id_data h s.to) no_items))))

-- steps, one after the other
abbrev pub steps_data : NamedHistory → List CycleStep → Data
steps_data h steps = array (items_of (map (step_data h) steps))

-- an order that is settled: `[key,id,id,steps]`, where the steps are of the opposite order
abbrev pub settled_data : NamedHistory → Settled → Data
settled_data h f = array (item (key_data h f.order.key) (item (id_data h f.order.first)
    (item (id_data h f.order.second) (item (steps_data h f.round.items) no_items))))

-- an order: `[key,id,id]`
abbrev pub order_data : NamedHistory → WriteOrder → Data
order_data h o = array (item (key_data h o.key) (item (id_data h o.first) (item (id_data h o.second) no_items)))

-- orders, one of which holds
abbrev pub clause_data : NamedHistory → List WriteOrder → Data
clause_data h os = array (items_of (map (order_data h) os))

-- what is left of a clause: `[n,order]`, where n is its number from 1 on
abbrev pub hint_data : NamedHistory → Hint → Data
hint_data h n = array (item (number (unsigned (n.lemma + 1))) (item (order_data h n.order) no_items))

abbrev pub hints_data : NamedHistory → List Hint → Data
hints_data h ns = array (items_of (map (hint_data h) ns))

-- a clause: `[orders,hints,steps]`
abbrev pub lemma_data : NamedHistory → Lemma → Data
lemma_data h l = array (item (clause_data h l.clause.items) (item (hints_data h l.hints.items)
    (item (steps_data h l.round.items) no_items)))

-- the orders that are settled
abbrev pub facts_data : NamedHistory → Refutation → Data
facts_data h x = array (items_of (map (settled_data h) x.facts.items))

-- a refutation: the orders that are settled, and the last round; where there are clauses, these and
-- what is left of them stand between
abbrev pub told_items : NamedHistory → Refutation → List Lemma → Items
told_items h x [] = item (string (codes "order")) (item (facts_data h x) (item (steps_data h x.last.items) no_items))
told_items h x (l ∷ ls) = item (string (codes "order")) (item (facts_data h x)
    (item (array (items_of (map (lemma_data h) (l ∷ ls)))) (item (hints_data h x.hints.items)
    (item (steps_data h x.last.items) no_items))))

abbrev pub refuted_items : NamedHistory → Refutation → Items
refuted_items h x = told_items h x x.lemmas.items

-- what is told of a read that cannot be
abbrev pub fact_members : NamedHistory → Fact → Members
fact_members h f = member (codes "txn") (id_data h f.txn) (member (codes "key") (key_data h f.key)
    (member (codes "value") (known_value h f.value) (member (codes "by") (known_id h f.by) no_members)))

-- the words of an answer
abbrev pub answer_words : List ℕ → Items → Items
answer_words word more = item (string (codes "import")) (item (string word) more)

-- how many transactions there are
abbrev pub yes_members : NamedHistory → Members
yes_members h = member (codes "transactions") (number (unsigned (length h.recording.transactions.items))) no_members

-- the line of a verdict: of a value that is given twice, the fault of the line that does so the
-- second time
abbrev pub verdict_text : NamedHistory → HistoryVerdict → List ℕ
verdict_text h (verdict.Yes t) = line_text (answer_words (codes "yes") (item (object (yes_members h)) no_items))
verdict_text h (verdict.No c) = line_text (answer_words (codes "no") (item (string (cycle_word c))
    (item (array (items_of (map (step_data h) c.steps.items))) no_items)))
verdict_text h (verdict.Refuted x) = line_text (answer_words (codes "no") (refuted_items h x))
verdict_text h (verdict.Fact f) = line_text (answer_words (codes "no") (item (string (rule_word f.rule))
    (item (object (fact_members h f)) no_items)))
verdict_text h (verdict.Open ks) = line_text (answer_words (codes "open")
    (item (array (items_of (map (key_data h) ks.items))) no_items))
verdict_text h verdict.Unknown = line_text (answer_words (codes "open") (item (array no_items) no_items))
verdict_text h (verdict.Twice first second value) = reply_text (second + 1, fault_words Form)
