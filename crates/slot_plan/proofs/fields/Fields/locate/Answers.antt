use Rattle.std.proofs.Common.{drop, sym, ◌∙◌, arith}
use Rattle.slot_plan.specs.Layout.{mode_word, counts}
use Rattle.slot_plan.proofs.Units.{no_mode}
use Rattle.slot_plan.proofs.Located.{word_here, place_here, word_past, place_past, word_none}
use Rattle.slot_plan.proofs.fields.Fields.locate.Goals as goal

pub returns-in_err-mode : goal.returns-in_err-mode
unfolding mode_word
returns-in_err-mode c =
    let f = c.args.self.now in
    let l = c.loop-line in
    let here = word_here f l.line-index l.place (omega arith) c.if-place-line.true in
    rw c.from_residual.ensures (λ m e. c.in_err-mode.ensures m (e ∙ sym l.invariant.0 ∙ here))

pub returns-then-place-line : goal.returns-then-place-line
unfolding mode_word
returns-then-place-line c =
    let f = c.args.self.now in
    let l = c.loop-line in (
      c.in_ok-mode.ensures ∙ sym (word_here f l.line-index l.place (omega arith) c.if-place-line.true) ∙ l.invariant.0,
      sym (place_here f l.line-index l.place (omega arith) c.if-place-line.true) ∙ l.invariant.1,
    )

pub loop-line-preserved : goal.loop-line-preserved
loop-line-preserved c =
    let f = c.args.self.now in
    let l = c.loop-line in (
      word_past f l.line-index l.place (omega arith) c.if-place-line.false ∙ l.invariant.0,
      place_past f l.line-index l.place (omega arith) c.if-place-line.false ∙ l.invariant.1,
    )

pub returns : goal.returns
unfolding mode_word
returns c =
    let f = c.args.self.now in
    let l = c.loop-line in
    let none = word_none f (drop l.line-index (counts f)) l.line-index l.place (omega arith) in
    λ m e. no_mode m (e ∙ sym l.invariant.0 ∙ none)
