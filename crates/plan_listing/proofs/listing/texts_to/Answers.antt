use Rattle.std.proofs.Common.{◌≡◌, ◌+◌, ◌-◌, string_bytes, ap, ◌∙◌, arith}
use Rattle.plan_listing.specs.Listing.{texts_to}
use Rattle.plan_listing.proofs.More.{one_more}
use Rattle.plan_listing.proofs.listing.texts_to.Goals as goal
use Rattle.plan_listing.proofs.listing.texts_to.Goals.{else-loop-number-test, then-loop-number-test+in_ok-text+in_ok-push_str+else-number-last}

pub loop-number-init : goal.loop-number-init
unfolding texts_to
loop-number-init g c = (omega arith, λ told tells. c.new-all.ensures.bytes)

pub loop-number-preserved : goal.loop-number-preserved
loop-number-preserved g c =
    let l = c.loop-number in
    let at : l.number ≡ l.number + 1 - 1 = omega arith in (
      omega arith,
      λ told tells.
          one_more _ told c.args.last l.number c.text.result _ _ _ _ tells (omega arith) (omega arith) c.text.ensures c.in_ok-text.was c.as_str.ensures.value
          (l.invariant.1 told tells) c.in_ok-push_str.ensures.bytes ∙ ap (texts_to told) at,
    )

pub returns : goal.returns
returns g c = λ told tells.
    let l = c.loop-number in
    elim c.loop-number-test.branch [
      | else-loop-number-test w ↦
          let at : l.number - 1 ≡ c.args.last = omega (arith, w.loop-number-test.false) in
          ap string_bytes w.all-is ∙ l.invariant.1 told tells ∙ ap (texts_to told) at
      | then-loop-number-test+in_ok-text+in_ok-push_str+else-number-last w ↦
          let at : l.number ≡ c.args.last = omega arith in
          ap string_bytes w.all-is
          ∙ one_more _ told c.args.last l.number w.text.result _ _ _ _ tells (omega arith) (omega arith) w.text.ensures w.in_ok-text.was w.as_str.ensures.value
          (l.invariant.1 told tells) w.in_ok-push_str.ensures.bytes
          ∙ ap (texts_to told) at
    ]
