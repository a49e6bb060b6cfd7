-- Numbers written one after the other. Assumes nothing.
use Rattle.std.proofs.Common.{◌≡◌, ℕ, ◌+◌, ◌-◌, ◌*◌, ◌/◌, ◌%◌, ◌^◌, ◌<◌, ◌≤◌, List, [], ◌∷◌, ◌++◌, length, map, get_or, take, sym, ap, refl, ◌∙◌, subst, arith}
use Rattle.std.proofs.lemmas.List.{map-id, take_more}
use Rattle.slot_plan.specs.declared.fields.LineNumbers.{LineNumbers}
use Rattle.plan_formats.specs.Bits.{Field, front, joined, width, Holds}
use Rattle.plan_formats.specs.Body.{numbers, Run}
use Rattle.plan_formats.specs.Cursors.{Wrote}
use Rattle.plan_formats.specs.declared.writer.BitWriter.{BitWriter}
use Rattle.plan_formats.proofs.Joins.{front_none, run_none, run_one, run_append, run_bit, numbers_append}
use Rattle.plan_formats.proofs.Lines.{line_fields, line_fields_append, lines_place}
use Rattle.plan_formats.proofs.Placed.{numbers_place, place_within}
use Rattle.plan_formats.proofs.Steps.{shift_less}

pub wrote_none : (a : BitWriter) → Wrote a [] a
wrote_none a = record { same_reference = refl; len = refl; run = run_none (front a.bytes.now a.place) a.place }

-- a number of no bits yet
pub wrote_zero : (a : BitWriter) → Wrote a ((0, 0) ∷ []) a
wrote_zero a =
    record {
      same_reference = refl;
      len = refl;
      run = subst (λ (k : ℕ). Run (front a.bytes.now a.place) a.place ((0, 0) ∷ []) (front a.bytes.now a.place) k) (omega arith)
          (run_one (front a.bytes.now a.place) a.place 0 0 (front a.bytes.now a.place) (omega arith) (omega arith));
    }

module _ {a b c : BitWriter} where
  pub wrote_append : (fs gs : List Field) → Wrote a fs b → Wrote b gs c → Wrote a (fs ++ gs) c
  wrote_append fs gs m n =
      record { same_reference = n.same_reference ∙ m.same_reference; len = n.len ∙ m.len; run = run_append fs gs m.run n.run }

  -- one bit more of a number
  pub wrote_bit : (k v x : ℕ) → Wrote a ((k, v) ∷ []) b → Wrote b ((1, x) ∷ []) c → Wrote a ((k + 1, v * 2 + x) ∷ []) c
  wrote_bit k v x m n =
      record { same_reference = n.same_reference ∙ m.same_reference; len = n.len ∙ m.len; run = run_bit k v x m.run n.run }

  -- one bit more of a number of which w - at bits are written
  pub wrote_shift :
      (w at k v x : ℕ) → at ≡ k + 1 → k < w → x ≡ v / 2 ^ k % 2 → Wrote a ((w - at, v / 2 ^ at) ∷ []) b → Wrote b ((1, x) ∷ []) c →
      Wrote a ((w - k, v / 2 ^ k) ∷ []) c
  wrote_shift w at k v x e h own m n =
      let was : Wrote a ((w - (k + 1), v / 2 ^ (k + 1)) ∷ []) b = subst (λ (i : ℕ). Wrote a ((w - i, v / 2 ^ i) ∷ []) b) e m in
      let bits : w - k ≡ w - (k + 1) + 1 = omega (arith, h) in
      let value : v / 2 ^ k ≡ v / 2 ^ (k + 1) * 2 + x = shift_less v k ∙ ap (λ (y : ℕ). v / 2 ^ (k + 1) * 2 + y) (sym own) in
      subst (λ (p : Field). Wrote a (p ∷ []) c) (sym (λ i. (bits i, value i))) (wrote_bit (w - (k + 1)) (v / 2 ^ (k + 1)) x was n)

  -- one number more
  pub wrote_number :
      (w : ℕ) (xs : List ℕ) (i : ℕ) → i < length xs → Wrote a (numbers w (take i xs)) b → Wrote b ((w, get_or xs i 0) ∷ []) c →
      Wrote a (numbers w (take (i + 1) xs)) c
  unfolding numbers
  wrote_number w xs i h m n =
      rw (take_more xs i 0 h, numbers_append w (take i xs) (get_or xs i 0 ∷ []))
      (wrote_append (numbers w (take i xs)) ((w, get_or xs i 0) ∷ []) m n)

-- one line more
pub wrote_line :
    {a b c d : BitWriter} (w n : ℕ) (ls : List LineNumbers) (i : ℕ) (l : LineNumbers) → i < length ls → Wrote a (line_fields w n (take i ls)) b →
    Wrote b ((w, (get_or ls i l).word) ∷ []) c → Wrote c ((n, (get_or ls i l).count) ∷ []) d → Wrote a (line_fields w n (take (i + 1) ls)) d
unfolding line_fields
wrote_line w n ls i l h m p q =
    let line = get_or ls i l in
    rw (take_more ls i l h, line_fields_append w n (take i ls) (line ∷ []))
    (wrote_append (line_fields w n (take i ls)) ((w, line.word) ∷ (n, line.count) ∷ []) m (wrote_append ((w, line.word) ∷ []) ((n, line.count) ∷ []) p q))

-- numbers that are their own values
pub wrote_values : {a b : BitWriter} (w : ℕ) (xs : List ℕ) → Wrote a (numbers w (map (λ (v : ℕ). v) xs)) b → Wrote a (numbers w xs) b
wrote_values {a} {b} w xs m = subst (λ (ys : List ℕ). Wrote a (numbers w ys) b) (map-id xs) m

-- there is room for one number more
pub wrote_room :
    {a b : BitWriter} (w : ℕ) (xs : List ℕ) (i n : ℕ) → Wrote a (numbers w (take i xs)) b → i < n → length xs ≡ n →
    a.place + w * n ≤ length a.bytes.now * 8 → b.place + w ≤ length b.bytes.now * 8
wrote_room {a} {b} w xs i n m h len room =
    let at : b.place ≡ a.place + w * i = numbers_place w xs i m.run (omega (arith, h, len)) in
    let fits : b.place + w ≤ length a.bytes.now * 8 = place_within a.place w i n b.place (length a.bytes.now * 8) at h room in
    omega (arith, fits, m.len)

-- there is room for one line more
pub wrote_line_room :
    {a b : BitWriter} (w n : ℕ) (ls : List LineNumbers) (i : ℕ) → Wrote a (line_fields w n (take i ls)) b → i < 4 → length ls ≡ 4 →
    a.place + 4 * (w + n) ≤ length a.bytes.now * 8 → b.place + (w + n) ≤ length b.bytes.now * 8
wrote_line_room {a} {b} w n ls i m h len room =
    let at : b.place ≡ a.place + (w + n) * i = lines_place w n ls i m.run (omega (arith, h, len)) in
    let all : a.place + (w + n) * 4 ≤ length a.bytes.now * 8 = omega (arith, room) in
    let fits : b.place + (w + n) ≤ length a.bytes.now * 8 = place_within a.place (w + n) i 4 b.place (length a.bytes.now * 8) at h all in
    omega (arith, fits, m.len)

-- from the first bit on
pub wrote_start :
    {a b : BitWriter} (fs : List Field) (n : ℕ) → a.place ≡ 0 → width fs ≡ n → Wrote a fs b → Run 0 0 fs (front b.bytes.now n) n
wrote_start {a} {b} fs n at wide m =
    let to : b.place ≡ n = omega (arith, at, wide, m.run.place) in
    let before : front a.bytes.now a.place ≡ 0 = ap (front a.bytes.now) at ∙ front_none a.bytes.now in
    record {
      place = omega (arith, wide);
      value = ap (front b.bytes.now) (sym to) ∙ m.run.value ∙ ap (λ (x : ℕ). joined x fs) before;
      fits = m.run.fits;
    }

-- and to the last: the bytes hold it
pub wrote_holds : {a b : BitWriter} (fs : List Field) → a.place ≡ 0 → length a.bytes.now * 8 ≡ width fs → Wrote a fs b → Holds b.bytes.now fs
wrote_holds fs at size m =
    let run = wrote_start fs (width fs) at refl m in
    record { size = omega (arith, size, m.len); bits = run.value; fits = run.fits }

-- what holds of the writer's bytes holds of the bytes that it was lent
pub as_written : (P : List ℕ → Type 0) (x y : List ℕ) → x ≡ y → P y → P x
as_written P x y e p = subst P (sym e) p
