-- A text that grows by a line.
use Rattle.std.proofs.Common.{◌≡◌, ℕ, List, [], ◌∷◌, ◌++◌, ◌+◌, length, refl, sym, ap, subst, ◌∙◌, append_assoc, append-nil}
use Rattle.std.proofs.lemmas.List.{length-append}
use Rattle.serde_json.specs.Data.{Items}
use Rattle.tx_types.specs.declared.key.Key.{Key}
use Rattle.tx_types.specs.declared.limits.TheConstants.{MAX_LIVE_SESSIONS}
use Rattle.tx_text.specs.Lines.{lines_of, NoNewline}
use Rattle.tx_text.proofs.TextLines.{lines_of-line}
use Rattle.tx_engine.specs.Semantics.{opening}
use Rattle.tx_evidence.specs.Lines.{bounds_of}
use Rattle.tx_script.specs.Play.{ending}
use Rattle.tx_script.specs.Players.{PlayerState, HasPlayed, IsPlayer, EndWellWith, EndsWell}
use Rattle.tx_script.proofs.PlayReplies.{is_play}
use Rattle.tx_generate.specs.Scripts.{BeginsLine, IsGrown, IsBegun}

-- a line and its newline come behind a text
module _ (text line : List ℕ) (begins : BeginsLine text) (plain : NoNewline line) where
  abbrev next : List ℕ
  next = (text ++ line) ++ 10 ∷ []

  next_is : (more : List ℕ) → next ++ more ≡ text ++ (line ++ 10 ∷ more)
  next_is more = append_assoc (text ++ line) (10 ∷ []) more ∙ append_assoc text line (10 ∷ more)

  lines_with : (more : List ℕ) → lines_of (next ++ more) ≡ (lines_of text ++ line ∷ []) ++ lines_of more
  lines_with more = ap lines_of (next_is more) ∙ begins (line ++ 10 ∷ more) ∙ ap (λ l. lines_of text ++ l)
      (lines_of-line line more plain) ∙ sym (append_assoc (lines_of text) (line ∷ []) (lines_of more))

  pub lines_next : lines_of ((text ++ line) ++ 10 ∷ []) ≡ lines_of text ++ line ∷ []
  lines_next = ap lines_of (sym (append-nil next)) ∙ lines_with [] ∙ append-nil (lines_of text ++ line ∷ [])

  pub count_next : length (lines_of ((text ++ line) ++ 10 ∷ [])) ≡ length (lines_of text) + 1
  count_next = ap length lines_next ∙ length-append (lines_of text) (line ∷ [])

  pub begins_next : BeginsLine ((text ++ line) ++ 10 ∷ [])
  begins_next more = lines_with more ∙ ap (λ l. l ++ lines_of more) (sym lines_next)

  pub begun_next : (bounds : List Key) → IsBegun bounds text → IsBegun bounds ((text ++ line) ++ 10 ∷ [])
  begun_next bounds b = record {
    first = b.first;
    rest = b.rest ++ line ∷ [];
    lines = lines_next ∙ ap (λ l. l ++ line ∷ []) b.lines;
    says = b.says;
  }

  pub grown_next : (bounds : List Key) (done : List (ℕ × Items)) (p : PlayerState)
      → HasPlayed bounds (lines_of text ++ line ∷ []) done p → IsGrown bounds ((text ++ line) ++ 10 ∷ []) p
  grown_next bounds done p has = record {
    begins = begins_next;
    done = done;
    played = subst (λ l. HasPlayed bounds l done p) (sym lines_next) has;
  }

module _ (bounds : List Key) where
  -- no line is in the text yet
  pub grown_none : (p : PlayerState) → HasPlayed bounds [] [] p → IsGrown bounds [] p
  grown_none p has = record { begins = λ more. refl; done = []; played = has }

  pub is_player : (text : List ℕ) (p : PlayerState) → IsGrown bounds text p → IsPlayer bounds p
  is_player text p g = g.played.stands

  -- what has been played ends well, over the keys that its first line says
  pub ends : (text : List ℕ) (p : PlayerState) → IsGrown bounds text p → IsBegun bounds text
      → ((lines : List (List ℕ)) (done : List (ℕ × Items)) → HasPlayed bounds lines done p
      → EndWellWith bounds lines done) → EndsWell text
  ends text p g b end = (
    g.done,
    subst (λ ks. EndWellWith ks (lines_of text) g.done) (sym (ap bounds_of b.lines ∙ b.says))
        (end (lines_of text) g.done g.played),
  )

-- no line is a script that ends well
pub ends_none : EndsWell []
ends_none = (
  [],
  (
    [],
    ending (opening MAX_LIVE_SESSIONS),
    is_play [] [] [] (ending (opening MAX_LIVE_SESSIONS)) refl tt,
    refl,
    refl,
  ),
)
