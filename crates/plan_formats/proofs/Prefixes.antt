-- The first fields alone. Assumes nothing.
use Rattle.std.proofs.Common.{◌≡◌, ℕ, zero, suc, ◌+◌, ◌*◌, ◌^◌, ◌<◌, ◌≤◌, List, [], ◌∷◌, ◌++◌, length, get_or, sym, ap, ◌∙◌, subst, add-zero, mul_assoc, add-mul, add-one, arith}
use Rattle.std.proofs.lemmas.Nat.{pow-add, mul-add-lt}
use Rattle.slot_plan.specs.declared.fields.Fields.{Fields}
use Rattle.plan_formats.specs.Bits.{Field, bit, front, joined, width, Fit, Holds}
use Rattle.plan_formats.specs.Body.{body}
use Rattle.plan_formats.specs.Faults.{FilePasses}
use Rattle.plan_formats.specs.Formats.{Bytes, file_widths, file_fields, PlanFile}
use Rattle.plan_formats.specs.declared.fault.FileFault.TheVariants.{Mark, Version, Size}
use Rattle.plan_formats.proofs.Heads.{front_byte, front_none}
use Rattle.plan_formats.proofs.Joins.{joined_append, width_append, fit_right}
use Rattle.plan_formats.proofs.Recovered.{width_file}
use Rattle.plan_formats.proofs.Steps.{bit_below, front_more, bits_more, below_more}
use Rattle.plan_formats.proofs.Unique.{split}

-- n bits more
front_high : (b : List ℕ) (p n : ℕ) → (r : ℕ) × (r < 2 ^ n) × (front b (p + n) ≡ front b p * 2 ^ n + r)
front_high b p zero = (0, omega arith, ap (front b) (add-zero p) ∙ omega arith)
front_high b p (suc n) =
    let rest = front_high b p n in
    let x = bit b (p + n) in
    let at : p + suc n ≡ p + n + 1 = omega arith in
    let pow : ◌≡◌ {A = ℕ} (2 ^ suc n) (2 ^ (n + 1)) = ap (λ (k : ℕ). 2 ^ k) (sym (add-one n)) in (
      rest.0 * 2 + x,
      subst (λ (k : ℕ). rest.0 * 2 + x < k) (sym pow) (below_more n rest.0 x rest.1 (bit_below b (p + n))),
      ap (front b) at ∙ front_more b (p + n) ∙ ap (λ (k : ℕ). k * 2 + x) rest.2 ∙ bits_more (front b p) n rest.0 x
          ∙ ap (λ (k : ℕ). front b p * k + (rest.0 * 2 + x)) (sym pow),
    )

joined_high : (x : ℕ) (fs : List Field) → Fit fs → (r : ℕ) × (r < 2 ^ width fs) × (joined x fs ≡ x * 2 ^ width fs + r)
unfolding joined width Fit
joined_high x [] fit = (0, omega arith, omega arith)
joined_high x (f ∷ fs) fit =
    let w = f.0 in
    let v = f.1 in
    let big = width fs in
    let rest = joined_high (x * 2 ^ w + v) fs fit.1 in
    let pow : 2 ^ (w + big) ≡ 2 ^ w * 2 ^ big = pow-add 2 w big in
    let fits : v * 2 ^ big + rest.0 < 2 ^ big * 2 ^ w = mul-add-lt v (2 ^ big) rest.0 (2 ^ w) fit.0 rest.1 in
    let spread : (x * 2 ^ w + v) * 2 ^ big ≡ x * (2 ^ w * 2 ^ big) + v * 2 ^ big = add-mul (x * 2 ^ w) v (2 ^ big) ∙ ap (λ (k : ℕ). k + v * 2 ^ big) (mul_assoc x (2 ^ w) (2 ^ big)) in (
      v * 2 ^ big + rest.0,
      subst (λ (k : ℕ). v * 2 ^ big + rest.0 < k) (sym pow) (omega (arith, fits)),
      rest.2 ∙ ap (λ (k : ℕ). k + rest.0) spread ∙ sym (ap (λ (k : ℕ). x * k + (v * 2 ^ big + rest.0)) pow ∙ omega arith),
    )

-- what bytes hold begins with its first fields
pub holds_front : (b : List ℕ) (fs gs : List Field) → Holds b (fs ++ gs) → front b (width fs) ≡ joined 0 fs
holds_front b fs gs h =
    let all : width (fs ++ gs) ≡ width fs + width gs = width_append fs gs in
    let low = front_high b (width fs) (width gs) in
    let high = joined_high (joined 0 fs) gs (fit_right fs gs h.fits) in
    let same : front b (width fs) * 2 ^ width gs + low.0 ≡ joined 0 fs * 2 ^ width gs + high.0 =
    sym low.2 ∙ ap (front b) (sym all) ∙ h.bits ∙ joined_append 0 fs gs ∙ high.2 in
    (split (width gs) (front b (width fs)) (joined 0 fs) low.0 high.0 low.1 high.1 same).0

-- six bytes from their number
six : (a b c d e f n : ℕ) → a < 256 → b < 256 → c < 256 → d < 256 → e < 256 → f < 256 → n < 256 →
    ((((a * 256 + b) * 256 + c) * 256 + d) * 256 + e) * 256 + f ≡ (0x534C50 * 65536 + 1) * 256 + n →
    (a ≡ 0x53) × (b ≡ 0x4C) × (c ≡ 0x50) × (d ≡ 0) × (e ≡ 1) × (f ≡ n)
six a b c d e f n ha hb hc hd he hf hn s = (omega arith, omega arith, omega arith, omega arith, omega arith, omega arith)

module _ (file : List ℕ) (f : Fields) (bytes : Bytes file) (p : PlanFile file f) where
  head_front : front file 48 ≡ (0x534C50 * 65536 + 1) * 256 + f.slots
  unfolding file_fields joined width
  head_front = holds_front file ((24, 0x534C50) ∷ (16, 1) ∷ (8, f.slots) ∷ []) (body (file_widths f.slots) f) p.holds

  head_bytes :
      (get_or file 0 0 ≡ 0x53) × (get_or file 1 0 ≡ 0x4C) × (get_or file 2 0 ≡ 0x50) × (get_or file 3 0 ≡ 0) × (get_or file 4 0 ≡ 1) × (get_or file 5 0 ≡ f.slots)
  head_bytes =
      let none = front_none file in
      let a : front file 8 ≡ front file 0 * 256 + get_or file 0 0 = front_byte file 0 (bytes 0) in
      let b : front file 16 ≡ front file 8 * 256 + get_or file 1 0 = front_byte file 1 (bytes 1) in
      let c : front file 24 ≡ front file 16 * 256 + get_or file 2 0 = front_byte file 2 (bytes 2) in
      let d : front file 32 ≡ front file 24 * 256 + get_or file 3 0 = front_byte file 3 (bytes 3) in
      let e : front file 40 ≡ front file 32 * 256 + get_or file 4 0 = front_byte file 4 (bytes 4) in
      let g : front file 48 ≡ front file 40 * 256 + get_or file 5 0 = front_byte file 5 (bytes 5) in
      six (get_or file 0 0) (get_or file 1 0) (get_or file 2 0) (get_or file 3 0) (get_or file 4 0) (get_or file 5 0) f.slots
      (bytes 0) (bytes 1) (bytes 2) (bytes 3) (bytes 4) (bytes 5) (omega (arith, p.room))
      (omega (arith, none, a, b, c, d, e, g, head_front))

  file_length : length file ≡ 39 + f.slots
  file_length = omega (arith, p.holds.size, width_file f p.shaped p.room)

  pub mark_passes : FilePasses file Mark
  mark_passes = let h = head_bytes in (omega (arith, file_length), h.0, h.1, h.2)

  pub version_passes : FilePasses file Version
  version_passes = let h = head_bytes in omega (arith, h.3, h.4)

  pub size_passes : 1 ≤ f.slots → FilePasses file Size
  size_passes some =
      let h = head_bytes in
      (omega (arith, h.5, some), omega (arith, h.5, p.room), omega (arith, h.5, file_length))
