use Rattle.std.proofs.Common.{◌≡◌, ◌++◌, ◌∷◌, [], length, ℕ, List, ap, sym, subst, ◌∙◌}
use Rattle.serde_json.specs.Data.{Items}
use Rattle.tx_reply.specs.Replies.{reply_words}
use Rattle.tx_text.specs.Lines.{lines_of}
use Rattle.tx_generate.specs.Scripts.{IsGrown, IsBegun}
use Rattle.tx_generate.proofs.Growth.{lines_next, count_next, grown_next, begun_next}
use Rattle.tx_generate.proofs.script.try_line.Goals as goal

pub returns-in_ok-push-in-Ok : goal.returns-in_ok-push-in-Ok
returns-in_ok-push-in-Ok g c =
    let bounds = g.J.JournalId.bounds in
    let text : List ℕ = c.args.text.now.items in
    let line : List ℕ = c.args.line.now in
    let next : List ℕ = (text ++ line) ++ 10 ∷ [] in
    let player = c.play.new.self in
    let grown = c.requires.grown in
    let plain = c.requires.plain in
    let items : c.push.new.self.items ≡ next = c.in_ok-push-in-Ok.ensures.items ∙ ap (λ t. t ++ 10 ∷ [])
    c.in_ok-extend_from_slice-in-Ok.ensures.items in
    let plays = rw c.in-Ok.is at c.in_ok-play.ensures.plays in
    let done : List (ℕ × Items) = grown.done ++ (player.number, reply_words c.in-Ok.reply) ∷ [] in
    let has = plays (lines_of text) grown.done grown.played in
    record {
      grown = subst (λ t. IsGrown bounds t player) (sym items)
          (grown_next text line grown.begins plain bounds done player has);
      first = λ none. ap lines_of items ∙ (lines_next text line grown.begins plain ∙ ap
          (λ t. lines_of t ++ line ∷ []) none);
      same = tt;
      more = ap (λ t. length (lines_of t)) items ∙ count_next text line grown.begins plain;
      begun = λ begun. subst (IsBegun bounds) (sym items)
          (begun_next text line grown.begins plain bounds begun);
    }
