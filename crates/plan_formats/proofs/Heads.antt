-- The first bytes of a plan file as fields. Assumes nothing.
use Rattle.std.proofs.Common.{◌≡◌, ℕ, ◌+◌, ◌-◌, ◌*◌, ◌/◌, ◌%◌, ◌^◌, ◌<◌, List, [], ◌∷◌, length, get_or, sym, refl, ap, ◌∙◌, arith}
use Rattle.slot_plan.specs.declared.fields.Fields.{Fields}
use Rattle.plan_formats.specs.Bits.{Field, bit, front, joined, width, Fit, Holds}
use Rattle.plan_formats.specs.Body.{body, body_width, Run}
use Rattle.plan_formats.specs.Faults.{FilePasses}
use Rattle.plan_formats.specs.Formats.{Bytes, file_widths, file_fields}
use Rattle.plan_formats.specs.declared.fault.FileFault.TheVariants.{Mark, Version}
pub use Rattle.plan_formats.proofs.Joins.{front_none}
use Rattle.plan_formats.proofs.Joins.{run_append}
use Rattle.plan_formats.proofs.Steps.{front_more}
use Rattle.plan_formats.proofs.Unique.{eight}

-- a bit of byte k
bit_at : (b : List ℕ) (k i : ℕ) → i < 8 → bit b (k * 8 + i) ≡ get_or b k 0 / 2 ^ (7 - i) % 2
bit_at b k i h =
    let row : (k * 8 + i) / 8 ≡ k = omega (arith, h) in
    let column : (k * 8 + i) % 8 ≡ i = omega (arith, h) in
    ap (λ (r : ℕ). get_or b r 0 / 2 ^ (7 - (k * 8 + i) % 8) % 2) row ∙ ap (λ (q : ℕ). get_or b k 0 / 2 ^ (7 - q) % 2) column

-- one byte more
pub front_byte : (b : List ℕ) (k : ℕ) → get_or b k 0 < 256 → front b (k * 8 + 8) ≡ front b (k * 8) * 256 + get_or b k 0
front_byte b k h =
    let x = get_or b k 0 in
    let at : (i : ℕ) → i < 8 → front b (k * 8 + i + 1) ≡ front b (k * 8 + i) * 2 + x / 2 ^ (7 - i) % 2 =
    λ i l. front_more b (k * 8 + i) ∙ ap (λ (n : ℕ). front b (k * 8 + i) * 2 + n) (bit_at b k i l) in
    let same : (i j : ℕ) → i ≡ j → front b i ≡ front b j = λ i j e. ap (front b) e in
    let a : front b (k * 8 + 1) ≡ front b (k * 8) * 2 + x / 128 % 2 = same (k * 8 + 1) (k * 8 + 0 + 1) (omega arith) ∙ at 0 (omega arith) ∙ ap (λ (n : ℕ). n * 2 + x / 128 % 2) (same (k * 8 + 0) (k * 8) (omega arith)) in
    let c : front b (k * 8 + 2) ≡ front b (k * 8 + 1) * 2 + x / 64 % 2 = same (k * 8 + 2) (k * 8 + 1 + 1) (omega arith) ∙ at 1 (omega arith) in
    let d : front b (k * 8 + 3) ≡ front b (k * 8 + 2) * 2 + x / 32 % 2 = same (k * 8 + 3) (k * 8 + 2 + 1) (omega arith) ∙ at 2 (omega arith) in
    let e : front b (k * 8 + 4) ≡ front b (k * 8 + 3) * 2 + x / 16 % 2 = same (k * 8 + 4) (k * 8 + 3 + 1) (omega arith) ∙ at 3 (omega arith) in
    let f : front b (k * 8 + 5) ≡ front b (k * 8 + 4) * 2 + x / 8 % 2 = same (k * 8 + 5) (k * 8 + 4 + 1) (omega arith) ∙ at 4 (omega arith) in
    let g : front b (k * 8 + 6) ≡ front b (k * 8 + 5) * 2 + x / 4 % 2 = same (k * 8 + 6) (k * 8 + 5 + 1) (omega arith) ∙ at 5 (omega arith) in
    let i : front b (k * 8 + 7) ≡ front b (k * 8 + 6) * 2 + x / 2 % 2 = same (k * 8 + 7) (k * 8 + 6 + 1) (omega arith) ∙ at 6 (omega arith) in
    let j : front b (k * 8 + 8) ≡ front b (k * 8 + 7) * 2 + x / 1 % 2 = same (k * 8 + 8) (k * 8 + 7 + 1) (omega arith) ∙ at 7 (omega arith) in
    omega (arith, a, c, d, e, f, g, i, j, eight x h)

-- mark, version and number of slots
pub head_run :
    (b : List ℕ) (slots : ℕ) → Bytes b → FilePasses b Mark → FilePasses b Version → slots ≡ get_or b 5 0 →
    Run 0 0 ((24, 0x534C50) ∷ (16, 1) ∷ (8, slots) ∷ []) (front b 48) 48
unfolding joined width Fit
head_run b slots bytes mark version e =
    let none = front_none b in
    let s : front b 8 ≡ front b 0 * 256 + get_or b 0 0 = front_byte b 0 (bytes 0) in
    let m0 = mark.1 in
    let l : front b 16 ≡ front b 8 * 256 + get_or b 1 0 = front_byte b 1 (bytes 1) in
    let p : front b 24 ≡ front b 16 * 256 + get_or b 2 0 = front_byte b 2 (bytes 2) in
    let v : front b 32 ≡ front b 24 * 256 + get_or b 3 0 = front_byte b 3 (bytes 3) in
    let w : front b 40 ≡ front b 32 * 256 + get_or b 4 0 = front_byte b 4 (bytes 4) in
    let n : front b 48 ≡ front b 40 * 256 + get_or b 5 0 = front_byte b 5 (bytes 5) in
    let m1 = mark.2 in
    let m2 = mark.3 in
    let all : front b 48 ≡ ((0x534C50 * 65536) + 1) * 256 + slots = omega (arith, none, s, l, p, v, w, n, m0, m1, m2, version, e) in
    record {
      place = refl;
      value = all;
      fits = (omega arith, (omega arith, (omega (arith, e, bytes 5), tt)));
    }

-- a run from the first bit to the last is what the bytes hold
pub holds_from_run : (b : List ℕ) (fs : List Field) (end : ℕ) → Run 0 0 fs (front b end) end → length b * 8 ≡ end → Holds b fs
holds_from_run b fs end run size =
    let all : end ≡ width fs = omega (arith, run.place) in
    record { size = size ∙ all; bits = ap (front b) (sym all) ∙ run.value; fits = run.fits }

-- the whole of a plan file, where y is the number in its head
pub file_run :
    (b : List ℕ) (f : Fields) (y : ℕ) → Run 0 0 ((24, 0x534C50) ∷ (16, 1) ∷ (8, f.slots) ∷ []) y 48 →
    Run y 48 (body (file_widths f.slots) f) (front b (48 + body_width (file_widths f.slots))) (48 + body_width (file_widths f.slots)) →
    length b ≡ 39 + f.slots → Holds b (file_fields f)
unfolding file_fields
file_run b f y head rest len =
    holds_from_run b (file_fields f) (48 + body_width (file_widths f.slots))
    (run_append ((24, 0x534C50) ∷ (16, 1) ∷ (8, f.slots) ∷ []) (body (file_widths f.slots) f) head rest) (omega (arith, len))
