-- What is told of a history so far, one verdict after another.
use Rattle.std.proofs.Common.{◌≡◌, ℕ, Bool, true, false, List, [], ◌∷◌, ◌++◌, length, get_or, refl, sym, ap, subst, ◌∙◌}
use Rattle.std.specs.Prelude.{cond, ◌||◌}
use Rattle.tx_recording.specs.declared.recording.Recording.{Recording}
use Rattle.tx_recording.specs.Recordings.{txns_of, ops_of}
use Rattle.tx_verdict.specs.declared.verdict.HistoryVerdict.{HistoryVerdict}
use Rattle.tx_verdict.specs.Verdicts.{IsVerdict}
use Rattle.tx_import.specs.declared.reader.NamedHistory.{NamedHistory}
use Rattle.tx_onward.specs.Tells.{tells, told_by}
use Rattle.tx_onward.specs.Left.{without, IsLeft}
use Rattle.tx_answers.specs.declared.answer.AnswerOptions.{AnswerOptions}
use Rattle.tx_answers.specs.declared.answer.ImportEnd.{ImportEnd}
use Rattle.tx_answers.specs.Texts.{end_of}
use Rattle.tx_answers.specs.All.{IsNext, TellsNoMore, AreNext, is_none, IsOneOf, IsTextOfAll, end_of_all, IsAllOf}

-- where there is a verdict, the end is that of the oldest
abbrev pub EndsAs : List HistoryVerdict → ImportEnd → Type 0
EndsAs [] end = Unit {0}
EndsAs (v ∷ vs) end = end ≡ end_of_all v vs

pub record IsSoFar (options : AnswerOptions) (h : NamedHistory) (told : List Bool) (text : List ℕ) (end : ImportEnd)
    (is_first : Bool) (vs : List HistoryVerdict) : Type 0 where
  pub next : AreNext h.recording options.question vs
  pub told_of : (t : ℕ) → get_or told t false ≡ told_by h.recording vs t
  pub count : length told ≡ txns_of h.recording
  pub said : IsTextOfAll options h vs text
  pub first : is_first ≡ is_none vs
  pub ends : EndsAs vs end

abbrev pub SoFar : AnswerOptions → NamedHistory → List Bool → List ℕ → ImportEnd → Bool → Type 0
SoFar options h told text end is_first = (vs : List HistoryVerdict) × IsSoFar options h told text end is_first vs

-- what is left is what those before it have left
pub left_by : (r left : Recording) (f g : ℕ → Bool) → ((t : ℕ) → f t ≡ g t) → IsLeft r f left → IsLeft r g left
left_by r left f g same l = record {
  transactions = l.transactions;
  ops = λ t h. subst (λ b. ops_of left t ≡ without b (ops_of r t)) (same t) (l.ops t h);
  count = l.count;
  elements = l.elements;
  keys = l.keys;
  values = l.values;
}

-- the end with one verdict more
pub ends_with : (vs : List HistoryVerdict) (v : HistoryVerdict) (end : ImportEnd) → EndsAs vs end
    → cond (is_none vs) (end_of v) end ≡ end_of_all v vs
ends_with [] v end e = refl
ends_with (w ∷ ws) v end e = e

-- a verdict that is of what is left
pub is_next : (options : AnswerOptions) (h : NamedHistory) (told : List Bool) (text : List ℕ) (end : ImportEnd)
    (is_first : Bool)
    (vs : List HistoryVerdict) (left : Recording) (v : HistoryVerdict) → IsSoFar options h told text end is_first vs
    → IsLeft h.recording (λ t. get_or told t false) left → IsVerdict left options.question v
    → IsNext h.recording options.question vs v
is_next options h told text end is_first vs left v s l verdict =
    (left, left_by h.recording left (λ t. get_or told t false) (told_by h.recording vs) s.told_of l, verdict)

or_true : (b : Bool) → (b || true) ≡ true
or_true true = refl
or_true false = refl

-- the text with one verdict more
pub said_with : {options : AnswerOptions} {h : NamedHistory} {told : List Bool} {text : List ℕ} {end : ImportEnd}
    {is_first : Bool}
    {vs : List HistoryVerdict} (v : HistoryVerdict) (one more : List ℕ) → IsSoFar options h told text end is_first vs
    → IsOneOf options h is_first v one → more ≡ text ++ one → IsTextOfAll options h (v ∷ vs) more
said_with {options} {h} {told} {text} v one more s o e =
    (text, one, s.said, subst (λ b. IsOneOf options h b v one) s.first o, e)

-- the end with one verdict more
pub end_so : {options : AnswerOptions} {h : NamedHistory} {told : List Bool} {text : List ℕ} {end : ImportEnd}
    {is_first : Bool}
    {vs : List HistoryVerdict} (v : HistoryVerdict) (new : ImportEnd) → IsSoFar options h told text end is_first vs
    → new ≡ cond is_first (end_of v) end → new ≡ end_of_all v vs
end_so {end = end} {vs = vs} v new s e =
    e ∙ subst (λ b. cond b (end_of v) end ≡ end_of_all v vs) (sym s.first) (ends_with vs v end s.ends)

-- a verdict that tells of none but those that were told of is the last
pub done : (options : AnswerOptions) (h : NamedHistory) (told after : List Bool) (text more : List ℕ)
    (end new : ImportEnd)
    (is_first : Bool) (left : Recording) (v : HistoryVerdict) → SoFar options h told text end is_first
    → IsLeft h.recording (λ t. get_or told t false) left → IsVerdict left options.question v
    → ((one : List ℕ) × IsOneOf options h is_first v one × (more ≡ text ++ one))
    → new ≡ cond is_first (end_of v) end
    → ((t : ℕ) → get_or after t false ≡ (get_or told t false || tells h.recording v t)) → after ≡ told
    → IsAllOf options h more new
done options h told after text more end new is_first left v (vs, s) l verdict (one, o, e) ends noted same =
    let none : TellsNoMore h.recording vs v = λ t told_of.
    let is : get_or told t false ≡ (get_or told t false || tells h.recording v t) =
    subst (λ bs. get_or bs t false ≡ (get_or told t false || tells h.recording v t)) same (noted t) in
    sym (s.told_of t) ∙ is ∙ ap (λ b. get_or told t false || b) told_of ∙ or_true (get_or told t false)
    in (
      v,
      vs,
      s.next,
      is_next options h told text end is_first vs left v s l verdict,
      none,
      said_with v one more s o e,
      end_so v new s ends,
    )

-- one that tells of one more is followed by what comes of what is left then
pub more_so : (options : AnswerOptions) (h : NamedHistory) (told after : List Bool) (text more : List ℕ)
    (end new : ImportEnd)
    (is_first : Bool) (left : Recording) (v : HistoryVerdict) → SoFar options h told text end is_first
    → IsLeft h.recording (λ t. get_or told t false) left → IsVerdict left options.question v
    → ((one : List ℕ) × IsOneOf options h is_first v one × (more ≡ text ++ one))
    → new ≡ cond is_first (end_of v) end
    → ((t : ℕ) → get_or after t false ≡ (get_or told t false || tells h.recording v t))
    → ((t : ℕ) × (tells h.recording v t ≡ true) × (get_or told t false ≡ false)) → length after ≡ length told
    → SoFar options h after more new false
more_so options h told after text more end new is_first left v (vs, s) l verdict (one, o, e) ends noted
    (t, tells_of, f) count = (
      v ∷ vs,
      record {
        next = (
          s.next,
          is_next options h told text end is_first vs left v s l verdict,
          (t, tells_of, sym (s.told_of t) ∙ f),
        );
        told_of = λ u. noted u ∙ ap (λ b. b || tells h.recording v u) (s.told_of u);
        count = count ∙ s.count;
        said = said_with v one more s o e;
        first = refl;
        ends = end_so v new s ends;
      },
    )

-- before the first verdict
pub nothing_told : (options : AnswerOptions) (h : NamedHistory) (told : List Bool) (text : List ℕ) (end : ImportEnd)
    → ((t : ℕ) → get_or told t false ≡ false) → length told ≡ txns_of h.recording → text ≡ []
    → SoFar options h told text end true
nothing_told options h told text end none count empty = (
  [],
  record {
    next = tt;
    told_of = none;
    count = count;
    said = empty;
    first = refl;
    ends = tt;
  },
)
