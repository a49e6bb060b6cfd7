-- Numbers read one after the other. Assumes nothing.
use Rattle.std.proofs.Common.{◌≡◌, ℕ, ◌+◌, ◌*◌, ◌<◌, ◌≤◌, List, [], ◌∷◌, ◌++◌, length, map, take, set, ap, refl, ◌∙◌, subst, arith}
use Rattle.std.proofs.lemmas.List.{map-id, take_more_set}
use Rattle.slot_plan.specs.declared.fields.LineNumbers.{LineNumbers}
use Rattle.plan_formats.specs.Bits.{Field, front, width, Holds}
use Rattle.plan_formats.specs.Body.{numbers, Run}
use Rattle.plan_formats.specs.Cursors.{Took}
use Rattle.plan_formats.specs.declared.reader.BitReader.{BitReader}
use Rattle.plan_formats.proofs.Joins.{front_none, run_none, run_one, run_append, run_bit, numbers_append}
use Rattle.plan_formats.proofs.Lines.{line_fields, line_fields_append, lines_place}
use Rattle.plan_formats.proofs.Placed.{numbers_place, place_within}

pub took_none : (a : BitReader) → Took a [] a
took_none a = record { bytes = refl; run = run_none (front a.bytes.now a.place) a.place }

-- a number of no bits yet
pub took_zero : (a : BitReader) → Took a ((0, 0) ∷ []) a
took_zero a =
    record {
      bytes = refl;
      run = subst (λ (k : ℕ). Run (front a.bytes.now a.place) a.place ((0, 0) ∷ []) (front a.bytes.now a.place) k) (omega arith)
          (run_one (front a.bytes.now a.place) a.place 0 0 (front a.bytes.now a.place) (omega arith) (omega arith));
    }

module _ {a b c : BitReader} where
  -- the second step, over the first one's bytes
  then : (gs : List Field) (fs : List Field) → Took a fs b → Took b gs c →
      Run (front a.bytes.now b.place) b.place gs (front a.bytes.now c.place) c.place
  then gs fs m n = subst (λ (l : List ℕ). Run (front l b.place) b.place gs (front l c.place) c.place) m.bytes n.run

  pub took_append : (fs gs : List Field) → Took a fs b → Took b gs c → Took a (fs ++ gs) c
  took_append fs gs m n = record { bytes = n.bytes ∙ m.bytes; run = run_append fs gs m.run (then gs fs m n) }

  -- one bit more of a number
  pub took_bit : (k v x : ℕ) → Took a ((k, v) ∷ []) b → Took b ((1, x) ∷ []) c → Took a ((k + 1, v * 2 + x) ∷ []) c
  took_bit k v x m n =
      record { bytes = n.bytes ∙ m.bytes; run = run_bit k v x m.run (then ((1, x) ∷ []) ((k, v) ∷ []) m n) }

  -- one number more, put at its place
  pub took_number :
      (w : ℕ) (xs : List ℕ) (i v : ℕ) → i < length xs → Took a (numbers w (take i xs)) b → Took b ((w, v) ∷ []) c →
      Took a (numbers w (take (i + 1) (set xs i v))) c
  unfolding numbers
  took_number w xs i v h m n =
      rw (take_more_set xs i v h, numbers_append w (take i xs) (v ∷ [])) (took_append (numbers w (take i xs)) ((w, v) ∷ []) m n)

-- one line more, put at its place
pub took_line :
    {a b c d : BitReader} (w n : ℕ) (ls : List LineNumbers) (i x y : ℕ) → i < length ls → Took a (line_fields w n (take i ls)) b →
    Took b ((w, x) ∷ []) c → Took c ((n, y) ∷ []) d → Took a (line_fields w n (take (i + 1) (set ls i (record { word = x; count = y })))) d
unfolding line_fields
took_line w n ls i x y h m p q =
    let line : LineNumbers = record { word = x; count = y } in
    rw (take_more_set ls i line h, line_fields_append w n (take i ls) (line ∷ []))
    (took_append (line_fields w n (take i ls)) ((w, x) ∷ (n, y) ∷ []) m (took_append ((w, x) ∷ []) ((n, y) ∷ []) p q))

-- numbers that are their own values
pub took_values : {a b : BitReader} (w : ℕ) (xs : List ℕ) → Took a (numbers w (map (λ (v : ℕ). v) xs)) b → Took a (numbers w xs) b
took_values {a} {b} w xs m = subst (λ (ys : List ℕ). Took a (numbers w ys) b) (map-id xs) m

-- there is room for one number more
pub took_room :
    {a b : BitReader} (w : ℕ) (xs : List ℕ) (i n : ℕ) → Took a (numbers w (take i xs)) b → i < n → length xs ≡ n →
    a.place + w * n ≤ length a.bytes.now * 8 → b.place + w ≤ length b.bytes.now * 8
took_room {a} {b} w xs i n m h len room =
    let at : b.place ≡ a.place + w * i = numbers_place w xs i m.run (omega (arith, h, len)) in
    let fits : b.place + w ≤ length a.bytes.now * 8 = place_within a.place w i n b.place (length a.bytes.now * 8) at h room in
    omega (arith, fits, ap length m.bytes)

-- there is room for one line more
pub took_line_room :
    {a b : BitReader} (w n : ℕ) (ls : List LineNumbers) (i : ℕ) → Took a (line_fields w n (take i ls)) b → i < 4 → length ls ≡ 4 →
    a.place + 4 * (w + n) ≤ length a.bytes.now * 8 → b.place + (w + n) ≤ length b.bytes.now * 8
took_line_room {a} {b} w n ls i m h len room =
    let at : b.place ≡ a.place + (w + n) * i = lines_place w n ls i m.run (omega (arith, h, len)) in
    let all : a.place + (w + n) * 4 ≤ length a.bytes.now * 8 = omega (arith, room) in
    let fits : b.place + (w + n) ≤ length a.bytes.now * 8 = place_within a.place (w + n) i 4 b.place (length a.bytes.now * 8) at h all in
    omega (arith, fits, ap length m.bytes)

-- what a reader went over, by the places where it was
pub took_from :
    {a b : BitReader} (fs : List Field) (bytes : List ℕ) (start n : ℕ) → a.bytes.now ≡ bytes → a.place ≡ start → width fs ≡ n → Took a fs b →
    Run (front bytes start) start fs (front bytes (start + n)) (start + n)
took_from {a} {b} fs bytes start n is at wide m =
    let to : b.place ≡ start + n = m.run.place ∙ ap (λ (k : ℕ). a.place + k) wide ∙ ap (λ (k : ℕ). k + n) at in
    subst (λ (k : ℕ). Run (front bytes start) start fs (front bytes k) k) to
    (subst (λ (k : ℕ). Run (front bytes k) k fs (front bytes b.place) b.place) at
    (subst (λ (l : List ℕ). Run (front l a.place) a.place fs (front l b.place) b.place) is m.run))

-- from the first bit on
pub took_start :
    {a b : BitReader} (fs : List Field) (n : ℕ) → a.place ≡ 0 → width fs ≡ n → Took a fs b → Run 0 0 fs (front a.bytes.now n) n
took_start {a} {b} fs n at wide m =
    subst (λ (k : ℕ). Run 0 0 fs (front a.bytes.now k) k) (omega arith)
    (subst (λ (x : ℕ). Run x 0 fs (front a.bytes.now (0 + n)) (0 + n)) (front_none a.bytes.now) (took_from fs a.bytes.now 0 n refl at wide m))

-- and to the last: the bytes hold it
pub took_holds : {a b : BitReader} (fs : List Field) → a.place ≡ 0 → length a.bytes.now * 8 ≡ width fs → Took a fs b → Holds a.bytes.now fs
took_holds fs at size m =
    let run = took_start fs (width fs) at refl m in
    record { size = size; bits = run.value; fits = run.fits }
