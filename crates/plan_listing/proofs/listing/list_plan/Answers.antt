use Rattle.std.proofs.Common.{ap, ◌∙◌}
use Rattle.plan_listing.specs.Listing.{head_line}
use Rattle.plan_listing.proofs.More.{joined}
use Rattle.plan_listing.proofs.listing.list_plan.Goals as goal

pub returns : goal.returns
returns c =
    joined
    (c.in_ok-text.ensures ∙ ap head_line c.slots.ensures.value)
    (c.as_str.ensures.value ∙ c.in_ok-mode_lines.ensures)
    (c.as_str-2.ensures.value ∙ c.in_ok-slot_lines.ensures)
    c.in_ok-push_str.ensures.bytes
    c.in_ok-push_str-2.ensures.bytes
