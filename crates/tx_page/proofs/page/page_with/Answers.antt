use Rattle.std.proofs.Common.{◌++◌, ap, ◌∙◌}
use Rattle.tx_html.specs.declared.page.PageFrame.{PageFrame}
use Rattle.tx_html.specs.Pages.{page_text}
use Rattle.tx_page.proofs.page.page_with.Goals as goal

pub returns : goal.returns
returns c =
    let frame : PageFrame = record {
      head = c.as_bytes.result;
      middle = c.as_bytes-2.result;
      below = c.as_bytes-3.result;
      foot = c.as_bytes-4.result;
    } in (frame, c.in_ok-put_page.ensures ∙ ap (λ t. t ++ page_text frame c.args.parts.now) c.new-page.ensures.items)
