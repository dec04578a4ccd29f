use Rattle.std.proofs.Common.{◌∙◌}
use Rattle.tx_page.proofs.page.page_of.Goals as goal

pub returns : goal.returns
returns c = record {
  frame = c.in_ok-page_with.ensures.0;
  parts = record {
    drawing = c.as_bytes.result;
    rows = c.as_bytes-2.result;
    script = c.as_slice.result;
    replies = c.as_slice-2.result;
    steps = c.as_slice-3.result;
    film = c.as_slice-4.result;
  };
  is = c.in_ok-page_with.ensures.1;
  script = c.as_slice.ensures.value ∙ c.in_ok-script.ensures;
  replies = c.as_slice-2.ensures.value ∙ c.in_ok-replies.ensures;
  steps = c.as_slice-3.ensures.value ∙ c.in_ok-steps.ensures;
}
