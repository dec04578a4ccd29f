-- No step has more than seven members.
use Rattle.std.proofs.Common.{◌≡◌, ℕ, ◌<◌, ◌&&◌, List, Bool, true, false, if◌then◌else◌, nat_le, Option, Some, None, option_map, option_and_then, refl, ap, ◌∙◌, arith}
use Rattle.serde_json.specs.Data.{Data, Items, no_items, item}
use Rattle.serde_json.specs.Find.{as_array, as_str, as_number, as_u64}
use Rattle.tx_types.specs.declared.limits.TheConstants.{MAX_TTL, MAX_TICK, MAX_SCAN_ROWS}
use Rattle.tx_types.specs.declared.mutation.Mode.{Mode}
use Rattle.tx_types.specs.declared.mutation.Mode.TheVariants.{TwoPhase, Async}
use Rattle.tx_text.specs.Parts.{count}
use Rattle.tx_steps.specs.declared.program.Program.{Program}
use Rattle.tx_steps.specs.declared.transfer.TheConstants.{MAX_AMOUNT}
use Rattle.tx_steps.specs.declared.word.Word.{Word}
use Rattle.tx_steps.specs.declared.word.Word.TheVariants as word
use Rattle.tx_steps.specs.Steps.{Text, IsApart, last_of, one_text, one_number, text_in, number_in, within, delivery_said, delivery_word, sends_said, get_said, range_said, scan_said, heartbeat_said, put_said, insert_said, mode_said, max_said, declare_said, op_said, read_said, tick_said, seed_said, moved_said, transfer_said, acts_said, said, word_said, any_said, step_said}
use Rattle.tx_steps.specs.declared.transfer.Transfer.{Transfer}
use Rattle.tx_steps.specs.declared.delivery.Delivery.{Delivery}
use Rattle.tx_steps.specs.declared.delivery.Delivery.TheVariants as delivery
use Rattle.tx_steps.specs.declared.call.Call.{Call}
use Rattle.tx_steps.specs.declared.call.Call.TheVariants as call
use Rattle.tx_steps.specs.declared.op.Op.{Op}
use Rattle.tx_steps.specs.declared.op.Op.TheVariants as op
use Rattle.tx_steps.specs.declared.step.Step.{Step}
use Rattle.tx_steps.specs.declared.step.Step.TheVariants as step
use Rattle.tx_steps.specs.Lines.{step_in, bounds_in}
use Rattle.tx_steps.specs.Bounds.{after_regions, list_said, bounds_said}

-- ---- nothing comes of what nothing comes of

module _ {A B : Type 0} where
  none_of : (f : A → Option B) (o : Option A) → ((x : A) → f x ≡ None) → option_and_then f o ≡ None
  none_of f None gone = refl
  none_of f (Some x) gone = gone x

  none_if : (f : A → Option B) (b : Bool) (x : A) → f x ≡ None → option_and_then f (if b then Some x else None) ≡ None
  none_if f true x gone = gone
  none_if f false x gone = refl

module _ {A B C : Type 0} where
  none_two : (f : A → Option B) (g : C → Option A) (o : Option C) → o ≡ None
      → option_and_then f (option_and_then g o) ≡ None
  none_two f g o e = ap (λ x. option_and_then f (option_and_then g x)) e

module _ {B : Type 0} where
  both_none : (b : Bool) (x y : Option B) → x ≡ None → y ≡ None → (if b then x else y) ≡ None
  both_none true x y p q = p
  both_none false x y p q = q

  text_then : (f : List ℕ × Items → Option B) (d : Data) (ds : Items) → ((s : List ℕ) → f (s, ds) ≡ None)
      → option_and_then f (text_in (item d ds)) ≡ None
  text_then f d ds gone = by_text (as_str d)
    where
      by_text : (o : Option (List ℕ)) → option_and_then f (option_map (λ s. (s, ds)) o) ≡ None
      by_text None = refl
      by_text (Some s) = gone s

  number_then : (f : ℕ × Items → Option B) (d : Data) (ds : Items) → ((n : ℕ) → f (n, ds) ≡ None)
      → option_and_then f (number_in (item d ds)) ≡ None
  number_then f d ds gone = by_number (option_and_then as_u64 (as_number d))
    where
      by_number : (o : Option ℕ) → option_and_then f (option_map (λ n. (n, ds)) o) ≡ None
      by_number None = refl
      by_number (Some n) = gone n

  within_then : (low high : ℕ) (f : ℕ × Items → Option B) (d : Data) (ds : Items) → ((n : ℕ) → f (n, ds) ≡ None)
      → option_and_then f (within low high (item d ds)) ≡ None
  within_then low high f d ds gone = by_number (option_and_then as_u64 (as_number d))
    where
      by_number : (o : Option ℕ)
          → option_and_then f (option_and_then (λ n. if nat_le low n.0
          && nat_le n.0 high then Some n else None) (option_map (λ n. (n, ds)) o)) ≡ None
      by_number None = refl
      by_number (Some n) = none_if f (nat_le low n && nat_le n high) (n, ds) (gone n)

-- ---- what is left over

one_text_more : (a b : Data) (r : Items) → one_text (item a (item b r)) ≡ None
one_text_more a b r = text_then last_of a (item b r) (λ s. refl)

one_number_more : (a b : Data) (r : Items) → one_number (item a (item b r)) ≡ None
one_number_more a b r = number_then last_of a (item b r) (λ n. refl)

delivery_more : (a b c : Data) (r : Items) → delivery_said (item a (item b (item c r))) ≡ None
delivery_more a b c r =
    none_of _ (as_str a) (λ w. both_none _ _ _ (ap (option_map delivery.Held) (one_text_more b c r))
    (none_of _ (delivery_word w) (λ y. refl)))

max_more : (m : Mode) (a b : Data) (r : Items) → max_said m (item a (item b r)) ≡ None
max_more TwoPhase a b r = refl
max_more Async a b r = ap (option_map Some) (one_number_more a b r)

-- ---- what a session sends

sends_more : (what : Call Text) (a b c d : Data) (r : Items)
    → sends_said what (item a (item b (item c (item d r)))) ≡ None
sends_more what a b c d r = text_then _ a _ (λ s. ap (option_map (step.Send s what)) (delivery_more b c d r))

get_more : (a b c d e : Data) (r : Items) → get_said (item a (item b (item c (item d (item e r))))) ≡ None
get_more a b c d e r =
    text_then _ a _ (λ s. text_then _ b _ (λ k. ap (option_map (step.Send s (call.Get k))) (delivery_more c d e r)))

heartbeat_more : (a b c d e : Data) (r : Items) → heartbeat_said (item a (item b (item c (item d (item e r))))) ≡ None
heartbeat_more a b c d e r =
    text_then _ a _ (λ s. within_then 0 MAX_TTL _ b _
    (λ n. ap (option_map (step.Send s (call.Heartbeat n))) (delivery_more c d e r)))

range_then : (f : Call Text × Items → Option (Step Text)) (from to limit : Data) (ds : Items)
    → ((x : Call Text) → f (x, ds) ≡ None) → option_and_then f (range_said (item from (item to (item limit ds)))) ≡ None
range_then f from to limit ds gone = by_from (as_str from)
  where
    by_limit : (s t : List ℕ) (n : ℕ) (b : Bool)
        → option_and_then f (option_map (λ (l : ℕ × Items). (call.Scan s t l.0, l.1))
        (if b then Some (n, ds) else None)) ≡ None
    by_limit s t n true = gone (call.Scan s t n)
    by_limit s t n false = refl

    by_number : (s t : List ℕ) (o : Option ℕ)
        → option_and_then f (option_map (λ (l : ℕ × Items). (call.Scan s t l.0, l.1))
        (option_and_then (λ (n : ℕ × Items). if nat_le 1 n.0
        && nat_le n.0 MAX_SCAN_ROWS then Some n else None) (option_map (λ n. (n, ds)) o))) ≡ None
    by_number s t None = refl
    by_number s t (Some n) = by_limit s t n (nat_le 1 n && nat_le n MAX_SCAN_ROWS)

    by_to : (s : List ℕ) (o : Option (List ℕ))
        → option_and_then f (option_and_then
        (λ (t : List ℕ × Items). option_map (λ (l : ℕ × Items). (call.Scan s t.0 l.0, l.1))
        (within 1 MAX_SCAN_ROWS t.1)) (option_map (λ t. (t, item limit ds)) o)) ≡ None
    by_to s None = refl
    by_to s (Some t) = by_number s t (option_and_then as_u64 (as_number limit))

    by_from : (o : Option (List ℕ))
        → option_and_then f (option_and_then
        (λ (g : List ℕ × Items). option_and_then
        (λ (t : List ℕ × Items). option_map (λ (l : ℕ × Items). (call.Scan g.0 t.0 l.0, l.1))
        (within 1 MAX_SCAN_ROWS t.1)) (text_in g.1)) (option_map (λ g. (g, item to (item limit ds))) o)) ≡ None
    by_from None = refl
    by_from (Some s) = by_to s (as_str to)

scan_more : (a b c d e g h : Data) (r : Items)
    → scan_said (item a (item b (item c (item d (item e (item g (item h r))))))) ≡ None
scan_more a b c d e g h r =
    text_then _ a _ (λ s. range_then _ b c d _ (λ x. ap (option_map (step.Send s x)) (delivery_more e g h r)))

-- ---- what a session does by itself

put_more : (a b c : Data) (r : Items) → put_said (item a (item b (item c r))) ≡ None
put_more a b c r = text_then _ a _ (λ k. ap (option_map (op.Put k)) (one_text_more b c r))

insert_more : (a b c : Data) (r : Items) → insert_said (item a (item b (item c r))) ≡ None
insert_more a b c r = text_then _ a _ (λ k. ap (option_map (op.Insert k)) (one_text_more b c r))

declare_more : (a b c d : Data) (r : Items) → declare_said (item a (item b (item c (item d r)))) ≡ None
declare_more a b c d r =
    text_then _ a _ (λ w. none_of _ (mode_said w)
    (λ m. within_then 0 MAX_TTL _ b _ (λ n. ap (option_map (op.Declare m n)) (max_more m c d r))))

act_more : (x : Word) (a b c d : Data) (r : Items) → op_said x (item a (item b (item c (item d r)))) ≡ None
act_more word.Put a b c d r = put_more a b c (item d r)
act_more word.Insert a b c d r = insert_more a b c (item d r)
act_more word.Delete a b c d r = ap (option_map op.Delete) (one_text_more a b (item c (item d r)))
act_more word.Lock a b c d r = ap (option_map op.Lock) (one_text_more a b (item c (item d r)))
act_more word.Declare a b c d r = declare_more a b c d r
act_more word.Draw a b c d r = refl
act_more word.Finish a b c d r = refl
act_more word.Stop a b c d r = refl
act_more word.Resolve a b c d r = ap (option_map op.Resolve) (one_number_more a b (item c (item d r)))
act_more _ a b c d r = refl

acts_more : (x : Word) (s a b c d : Data) (r : Items)
    → acts_said x (item s (item a (item b (item c (item d r))))) ≡ None
acts_more x s a b c d r = text_then _ s _ (λ name. ap (option_map (step.Act name)) (act_more x a b c d r))

-- ---- the others

read_more : (a b c : Data) (r : Items) → read_said (item a (item b (item c r))) ≡ None
read_more a b c r = text_then _ a _ (λ k. ap (option_map (step.Read k)) (one_number_more b c r))

tick_more : (a b : Data) (r : Items) → tick_said (item a (item b r)) ≡ None
tick_more a b r = within_then 1 MAX_TICK _ a _ (λ n. refl)

seed_more : (a b c : Data) (r : Items) → seed_said (item a (item b (item c r))) ≡ None
seed_more a b c r = text_then _ a _ (λ k. ap (option_map (step.Seed k)) (one_text_more b c r))

moved_more : (a b c d e : Data) (r : Items) → moved_said (item a (item b (item c (item d (item e r))))) ≡ None
moved_more a b c d e r =
    text_then _ a _ (λ f. text_then _ b _
    (λ t. within_then 1 MAX_AMOUNT _ c _ (λ n. none_two _ mode_said _ (one_text_more d e r))))

transfer_more : (s a b c d e : Data) (r : Items)
    → transfer_said (item s (item a (item b (item c (item d (item e r)))))) ≡ None
transfer_more s a b c d e r = text_then _ s _ (λ name. ap (option_map (step.Transfer name)) (moved_more a b c d e r))

said_more : (x : Word) (a b c d e g h : Data) (r : Items)
    → said x (item a (item b (item c (item d (item e (item g (item h r))))))) ≡ None
said_more word.Begin a b c d e g h r = ap (option_map step.Begin) (one_text_more a b _)
said_more word.Get a b c d e g h r = get_more a b c d e _
said_more word.Scan a b c d e g h r = scan_more a b c d e g h r
said_more word.Prewrite a b c d e g h r = sends_more call.Prewrite a b c d _
said_more word.Commit a b c d e g h r = sends_more call.Commit a b c d _
said_more word.Abort a b c d e g h r = sends_more call.Abort a b c d _
said_more word.Heartbeat a b c d e g h r = heartbeat_more a b c d e _
said_more word.Deliver a b c d e g h r = ap (option_map step.Deliver) (one_text_more a b _)
said_more word.Read a b c d e g h r = read_more a b c _
said_more word.Versions a b c d e g h r = ap (option_map step.Versions) (one_text_more a b _)
said_more word.Tick a b c d e g h r = tick_more a b _
said_more word.Gc a b c d e g h r = ap (option_map step.Gc) (one_number_more a b _)
said_more word.Seed a b c d e g h r = seed_more a b c _
said_more word.Transfer a b c d e g h r = transfer_more a b c d e g _
said_more word.Put a b c d e g h r = acts_more word.Put a b c d e _
said_more word.Insert a b c d e g h r = acts_more word.Insert a b c d e _
said_more word.Delete a b c d e g h r = acts_more word.Delete a b c d e _
said_more word.Lock a b c d e g h r = acts_more word.Lock a b c d e _
said_more word.Declare a b c d e g h r = acts_more word.Declare a b c d e _
said_more word.Draw a b c d e g h r = acts_more word.Draw a b c d e _
said_more word.Finish a b c d e g h r = acts_more word.Finish a b c d e _
said_more word.Stop a b c d e g h r = acts_more word.Stop a b c d e _
said_more word.Resolve a b c d e g h r = acts_more word.Resolve a b c d e _

any_more : (w a b c d e g h : Data) (r : Items)
    → any_said (item w (item a (item b (item c (item d (item e (item g (item h r)))))))) ≡ None
any_more w a b c d e g h r = text_then _ w _ (λ t. none_of _ (word_said t) (λ x. said_more x a b c d e g h r))

-- ---- so an array of more members says no step

module _ (program : Program) where
  step_more : (items : Items) → 7 < count items → step_said program items ≡ None
  step_more no_items more = absurd (omega (arith, more))
  step_more (item a no_items) more = absurd (omega (arith, more))
  step_more (item a (item b no_items)) more = absurd (omega (arith, more))
  step_more (item a (item b (item c no_items))) more = absurd (omega (arith, more))
  step_more (item a (item b (item c (item d no_items)))) more = absurd (omega (arith, more))
  step_more (item a (item b (item c (item d (item e no_items))))) more = absurd (omega (arith, more))
  step_more (item a (item b (item c (item d (item e (item g no_items)))))) more = absurd (omega (arith, more))
  step_more (item a (item b (item c (item d (item e (item g (item h no_items))))))) more = absurd (omega (arith, more))
  step_more (item a (item b (item c (item d (item e (item g (item h (item i r)))))))) more =
      ap (option_and_then _) (any_more a b c d e g h i r)

  pub no_step_in : (d : Data) → ((items : Items) → as_array d ≡ Some items → 7 < count items) → step_in program d ≡ None
  no_step_in d many = by_items (as_array d) refl
    where
      by_items : (o : Option Items) → as_array d ≡ o → option_and_then (step_said program) (as_array d) ≡ None
      by_items None e = ap (option_and_then (step_said program)) e
      by_items (Some items) e = ap (option_and_then (step_said program)) e ∙ step_more items (many items e)

-- ---- and no keys between regions

after_more : (a b : Data) (r : Items) → after_regions (item a (item b r)) ≡ None
after_more a b r = none_of _ (as_array a) (λ ks. refl)

list_more : (w a b : Data) (r : Items) → list_said (item w (item a (item b r))) ≡ None
list_more w a b r = text_then _ w _ (λ t. both_none _ _ _ (after_more a b r) refl)

bounds_more : (items : Items) → 7 < count items → bounds_said items ≡ None
bounds_more no_items more = absurd (omega (arith, more))
bounds_more (item w no_items) more = absurd (omega (arith, more))
bounds_more (item w (item a no_items)) more = absurd (omega (arith, more))
bounds_more (item w (item a (item b r))) more = ap (option_and_then _) (list_more w a b r)

pub no_bounds_in : (d : Data) → ((items : Items) → as_array d ≡ Some items → 7 < count items) → bounds_in d ≡ None
no_bounds_in d many = by_items (as_array d) refl
  where
    by_items : (o : Option Items) → as_array d ≡ o → option_and_then bounds_said (as_array d) ≡ None
    by_items None e = ap (option_and_then bounds_said) e
    by_items (Some items) e = ap (option_and_then bounds_said) e ∙ bounds_more items (many items e)
