-- The two keys of a transfer that a line says differ.
use Rattle.std.proofs.Common.{◌≡◌, ◌≢◌, ◌&&◌, ℕ, List, Bool, true, false, if◌then◌else◌, bytes_eq, nat_le, Option, Some, None, option_map, option_and_then, refl, sym, ap, subst, ◌∙◌}
use Rattle.std.specs.Prelude.{IfSome}
use Rattle.std.specs.Cmp.Lexicographic.{bytes_decides}
use Rattle.serde_json.specs.Data.{Data, Items, no_items, item}
use Rattle.serde_json.specs.Find.{as_array, as_str}
use Rattle.tx_types.specs.declared.limits.TheConstants.{MAX_TTL, MAX_TICK, MAX_SCAN_ROWS}
use Rattle.tx_types.specs.declared.mutation.Mode.{Mode}
use Rattle.tx_steps.specs.declared.transfer.TheConstants.{MAX_AMOUNT}
use Rattle.tx_steps.specs.declared.transfer.Transfer.{Transfer}
use Rattle.tx_steps.specs.declared.program.Program.{Program}
use Rattle.tx_steps.specs.declared.word.Word.{Word}
use Rattle.tx_steps.specs.declared.word.Word.TheVariants as word
use Rattle.tx_steps.specs.declared.call.Call.{Call}
use Rattle.tx_steps.specs.declared.call.Call.TheVariants as call
use Rattle.tx_steps.specs.declared.step.Step.{Step}
use Rattle.tx_steps.specs.declared.step.Step.TheVariants as step
use Rattle.tx_steps.specs.Steps.{Text, IsApart, text_in, within, one_text, one_number, last_of, delivery_said, sends_said, range_said, mode_said, moved_said, op_said, acts_said, said, word_said, any_said, is_of, step_said}
use Rattle.tx_steps.specs.Lines.{step_in}

-- ---- what holds of what comes of an option

module _ {A B : Type 0} (P : B → Type 0) where
  then_if : (f : A → Option B) (o : Option A) → ((a : A) → IfSome (f a) P) → IfSome (option_and_then f o) P
  then_if f None each = tt
  then_if f (Some a) each = each a

  map_if : (f : A → B) (o : Option A) → ((a : A) → P (f a)) → IfSome (option_map f o) P
  map_if f None each = tt
  map_if f (Some a) each = each a

  map_by : (Q : A → Type 0) (f : A → B) (o : Option A) → IfSome o Q → ((a : A) → Q a → P (f a))
      → IfSome (option_map f o) P
  map_by Q f None here each = tt
  map_by Q f (Some a) here each = each a here

-- ---- what is moved

abbrev Differ : Transfer Text → Type 0
Differ m = m.from ≢ m.to

by_test : (a b : Text) (n : ℕ) (m : Mode) (x : Bool) → bytes_eq a b ≡ x
    → IfSome (if x then None else Some (record { from = a; to = b; amount = n; mode = m })) Differ
by_test a b n m true e = tt
by_test a b n m false e =
    λ same. (let same_bytes : bytes_eq a b ≡ true = (bytes_decides a b).1 same in absurd (cc (same_bytes, e)))

moved_apart : (ds : Items) → IfSome (moved_said ds) Differ
moved_apart ds =
    then_if Differ _ (text_in ds)
    (λ f. then_if Differ _ (text_in f.1)
    (λ t. then_if Differ _ (within 1 MAX_AMOUNT t.1)
    (λ n. then_if Differ _ (option_and_then mode_said (one_text n.1))
    (λ m. by_test f.0 t.0 n.0 m (bytes_eq f.0 t.0) refl))))

-- ---- the steps

sends_apart : (what : Call Text) (ds : Items) → IfSome (sends_said what ds) IsApart
sends_apart what ds = then_if IsApart _ (text_in ds) (λ s. map_if IsApart _ (delivery_said s.1) (λ d. tt))

acts_apart : (w : Word) (ds : Items) → IfSome (acts_said w ds) IsApart
acts_apart w ds = then_if IsApart _ (text_in ds) (λ s. map_if IsApart _ (op_said w s.1) (λ o. tt))

said_apart : (w : Word) (ds : Items) → IfSome (said w ds) IsApart
said_apart word.Begin ds = map_if IsApart _ (one_text ds) (λ s. tt)
said_apart word.Get ds =
    then_if IsApart _ (text_in ds)
    (λ s. then_if IsApart _ (text_in s.1) (λ k. map_if IsApart _ (delivery_said k.1) (λ d. tt)))
said_apart word.Scan ds =
    then_if IsApart _ (text_in ds)
    (λ s. then_if IsApart _ (range_said s.1) (λ r. map_if IsApart _ (delivery_said r.1) (λ d. tt)))
said_apart word.Prewrite ds = sends_apart call.Prewrite ds
said_apart word.Commit ds = sends_apart call.Commit ds
said_apart word.Abort ds = sends_apart call.Abort ds
said_apart word.Heartbeat ds =
    then_if IsApart _ (text_in ds)
    (λ s. then_if IsApart _ (within 0 MAX_TTL s.1) (λ n. map_if IsApart _ (delivery_said n.1) (λ d. tt)))
said_apart word.Deliver ds = map_if IsApart _ (one_text ds) (λ s. tt)
said_apart word.Read ds = then_if IsApart _ (text_in ds) (λ k. map_if IsApart _ (one_number k.1) (λ n. tt))
said_apart word.Versions ds = map_if IsApart _ (one_text ds) (λ s. tt)
said_apart word.Tick ds = then_if IsApart _ (within 1 MAX_TICK ds) (λ n. map_if IsApart _ (last_of n) (λ m. tt))
said_apart word.Gc ds = map_if IsApart _ (one_number ds) (λ n. tt)
said_apart word.Seed ds = then_if IsApart _ (text_in ds) (λ k. map_if IsApart _ (one_text k.1) (λ v. tt))
said_apart word.Transfer ds =
    then_if IsApart _ (text_in ds) (λ s. map_by IsApart Differ _ (moved_said s.1) (moved_apart s.1) (λ m apart. apart))
said_apart word.Put ds = acts_apart word.Put ds
said_apart word.Insert ds = acts_apart word.Insert ds
said_apart word.Delete ds = acts_apart word.Delete ds
said_apart word.Lock ds = acts_apart word.Lock ds
said_apart word.Declare ds = acts_apart word.Declare ds
said_apart word.Draw ds = acts_apart word.Draw ds
said_apart word.Finish ds = acts_apart word.Finish ds
said_apart word.Stop ds = acts_apart word.Stop ds
said_apart word.Resolve ds = acts_apart word.Resolve ds

any_apart : (ds : Items) → IfSome (any_said ds) IsApart
any_apart ds = then_if IsApart _ (text_in ds) (λ w. then_if IsApart _ (word_said w.0) (λ x. said_apart x w.1))

-- ---- and so of a program

module _ (program : Program) where
  tested : (o : Option (Step Text)) → IfSome o IsApart
      → IfSome (option_and_then (λ s. if is_of program s then Some s else None) o) IsApart
  tested None apart = tt
  tested (Some s) apart = by_program (is_of program s)
    where
      by_program : (b : Bool) → IfSome (if b then Some s else None) IsApart
      by_program true = apart
      by_program false = tt

  in_apart : (d : Data) → IfSome (step_in program d) IsApart
  in_apart d = then_if IsApart (step_said program) (as_array d) (λ ds. tested (any_said ds) (any_apart ds))

  pub is_apart : (d : Data) (s : Step Text) → Some s ≡ step_in program d → IsApart s
  is_apart d s is = subst (λ o. IfSome o IsApart) (sym is) (in_apart d)
