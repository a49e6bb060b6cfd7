use Rattle.std.proofs.Common.{◌≡◌, ℕ, ◌+◌, ◌-◌, ◌*◌, ◌<◌, List, length, get_or, take, drop, ap, ◌∙◌, subst, arith}
use Rattle.std.proofs.lemmas.List.Edits.{length-between, get_or-between}
use Rattle.dispersal.specs.Stages.{At}
use Rattle.super_frame.proofs.Headings.{whole}
use Rattle.super_frame.proofs.heads.write_head.Goals as goal

-- the eight TMCC bytes of a frame
eight : (tmcc : List ℕ) (at frame : ℕ) → at ≡ frame → frame < 8 → length tmcc ≡ 64 → length (take (8 * at + 8 - 8 * at) (drop (8 * at) tmcc)) ≡ 8
eight tmcc at frame e h size = length-between tmcc (8 * at) (8 * at + 8) (omega arith) ∙ omega arith

bytes : (tmcc : List ℕ) (at frame : ℕ) → at ≡ frame → (i : ℕ) → i < 8 → get_or (take (8 * at + 8 - 8 * at) (drop (8 * at) tmcc)) i 0 ≡ get_or tmcc (8 * frame + i) 0
bytes tmcc at frame e i h = get_or-between tmcc (8 * at) (8 * at + 8) i 0 (omega arith) ∙ ap (λ (f : ℕ). get_or tmcc (8 * f + i) 0) e

pub returns : goal.returns
returns c =
    let tmcc = c.args.tmcc.now in
    let at = c.from-first.result in
    let frame = c.args.frame in
    let piece = take (8 * at + 8 - 8 * at) (drop (8 * at) tmcc) in
    let long = eight tmcc at frame c.from-first.ensures c.requires.1 c.told-tmcc in
    record {
      head = λ here.
          whole frame c.own_word.result tmcc piece c.args.head.now c.put_sync.new.bytes c.put_dispersed.new.bytes c.put_sync-2.new.bytes
          c.own_word.ensures long (bytes tmcc at frame c.from-first.ensures) c.put_sync.ensures (c.put_dispersed.ensures.put (12 * frame) here) c.put_sync-2.ensures;
      place = λ here.
          let next : 12 * frame + 8 + 4 ≡ 12 * (frame + 1) = omega arith in
          subst (λ (m : ℕ). At c.skip.new.self.window m) next
          (c.skip.ensures (12 * frame + 8)
          (subst (λ (m : ℕ). At c.put_dispersed.new.sequence.window (12 * frame + m)) long (c.put_dispersed.ensures.place (12 * frame) here)));
    }
