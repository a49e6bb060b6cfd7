-- A kept plan is the one that was packed. Assumes nothing.
use Rattle.std.proofs.Common.{◌≡◌, ℕ, ◌*◌, List, length, sym, ap, ◌∙◌, arith}
use Rattle.slot_plan.specs.declared.fields.Fields.{Fields}
use Rattle.plan_formats.specs.Bits.{front, width}
use Rattle.plan_formats.specs.Body.{numbers, Run}
use Rattle.plan_formats.specs.Formats.{tmcc_fields, TmccData}
use Rattle.plan_formats.specs.Kept.{Keeps}
use Rattle.plan_formats.proofs.Recovered.{joined_same, width_tmcc}

-- the bytes of a kept plan are its TMCC data with order of change 0
pub kept_data :
    (bytes : List ℕ) (slots : ℕ) (packed : List ℕ) (f : Fields) → Keeps slots packed f → length bytes ≡ 48 → Run 0 0 (numbers 64 packed) (front bytes 384) 384 →
    TmccData bytes slots 0 f
kept_data bytes slots packed f k len run =
    let wide = width_tmcc 0 f k.shaped in
    let size : length bytes * 8 ≡ width (tmcc_fields 0 f) = omega (arith, len, wide) in
    let end : ◌≡◌ {A = ℕ} 384 (width (tmcc_fields 0 f)) = omega (arith, wide) in
    record {
      shaped = k.shaped;
      frame = k.frame;
      holds = record { size = size; bits = ap (front bytes) (sym end) ∙ run.value ∙ k.bits; fits = k.fits };
    }

-- and the other way round
pub data_keeps :
    (bytes : List ℕ) (slots : ℕ) (packed : List ℕ) (f : Fields) → TmccData bytes slots 0 f → Run 0 0 (numbers 64 packed) (front bytes 384) 384 →
    Keeps slots packed f
data_keeps bytes slots packed f t run =
    let wide = width_tmcc 0 f t.shaped in
    let end : ◌≡◌ {A = ℕ} 384 (width (tmcc_fields 0 f)) = omega (arith, wide) in
    record {
      shaped = t.shaped;
      frame = t.frame;
      bits = sym run.value ∙ ap (front bytes) end ∙ t.holds.bits;
      fits = t.holds.fits;
    }

-- packed numbers keep one plan only
pub keeps_same : (slots : ℕ) (packed : List ℕ) (f g : Fields) → Keeps slots packed f → Keeps slots packed g → f ≡ g
keeps_same slots packed f g p q =
    (joined_same 0 0 f g p.shaped q.shaped (p.frame ∙ sym q.frame) p.fits q.fits (sym p.bits ∙ q.bits)).1
