-- What a version holds, by what its writer put.
use Rattle.std.proofs.Common.{◌≡◌, ℕ, ◌+◌, ◌-◌, ◌≤◌, List, [], ◌++◌, take, drop, arith, sym, ap, ◌∙◌, true, false}
use Rattle.std.proofs.lemmas.List.{take-append-drop, take-take}
use Rattle.tx_recording.specs.declared.recording.Span.{Span}
use Rattle.tx_views.specs.declared.effect.Effect.{Effect}
use Rattle.tx_views.specs.Views.{left_by}
use Rattle.tx_views.proofs.ReadViews.{appended, cleared}
use Rattle.tx_verdict.specs.Versions.{text_in}

pub whole : (xs ys : List ℕ) → drop 0 xs ≡ ys → xs ≡ ys
whole xs ys e = e

none_in : (texts : List ℕ) (before : Span) → before.count ≡ 0 → text_in texts before ≡ []
none_in texts before none =
    let n : before.first + before.count - before.first ≡ 0 = omega (arith, none) in
    ap (λ q. take q (drop before.first texts)) n

pub left_cleared : (texts text : List ℕ) (before span : Span) (e : Effect) → text ≡ text_in texts span → e.clears ≡ true
    → drop 0 text ≡ e.values.items → text_in texts span ≡ left_by e (text_in texts before)
left_cleared texts text before span e is clears ends = sym is ∙ ends ∙ sym (cleared e (text_in texts before) clears)

pub left_first : (texts text : List ℕ) (before span : Span) (e : Effect) → text ≡ text_in texts span → e.clears ≡ false
    → before.count ≡ 0 → drop 0 text ≡ e.values.items → text_in texts span ≡ left_by e (text_in texts before)
left_first texts text before span e is clears none ends =
    sym is ∙ ends ∙ ap (λ q. q ++ e.values.items) (sym (none_in texts before none))
    ∙ sym (appended e (text_in texts before) clears)

pub left_behind : (texts text : List ℕ) (before span : Span) (e : Effect) → text ≡ text_in texts span → e.clears ≡ false
    → before.first ≡ span.first → before.count ≤ span.count → drop before.count text ≡ e.values.items
    → text_in texts span ≡ left_by e (text_in texts before)
left_behind texts text before span e is clears same le ends =
    let all = drop span.first texts in
    let a : before.first + before.count - before.first ≡ before.count = omega arith in
    let b : span.first + span.count - span.first ≡ span.count = omega arith in
    let front : text_in texts before ≡ take before.count (text_in texts span) =
    ap (λ q. take q (drop before.first texts)) a ∙ ap (λ q. take before.count (drop q texts)) same
    ∙ sym (take-take before.count span.count all le) ∙ ap (λ q. take before.count (take q all)) (sym b) in
    sym (take-append-drop before.count (text_in texts span))
    ∙ ap (λ q. take before.count (text_in texts span) ++ q) (ap (λ q. drop before.count q) (sym is) ∙ ends)
    ∙ ap (λ q. q ++ e.values.items) (sym front) ∙ sym (appended e (text_in texts before) clears)
