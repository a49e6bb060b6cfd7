-- A plan's fields from the numbers of a format. Assumes nothing.
use Rattle.std.proofs.Common.{◌≡◌, ℕ, zero, suc, ◌+◌, ◌*◌, ◌<◌, ◌≤◌, List, [], ◌∷◌, ◌++◌, length, get_or, map, take, drop, sym, refl, ap, ◌∙◌, subst, inl, inr, arith}
use Rattle.std.proofs.lemmas.List.{length-map, ext_get_or, take_at, drop_at, take_all, length-take-le, get_or-take}
use Rattle.std.proofs.lemmas.Bool.{cases_lt}
use Rattle.slot_plan.specs.Layout.{Shaped, words, counts}
use Rattle.slot_plan.specs.declared.fields.LineNumbers.{LineNumbers}
use Rattle.slot_plan.specs.declared.fields.Fields.{Fields}
use Rattle.plan_formats.specs.Bits.{Field, front, joined, width, Fit}
use Rattle.plan_formats.specs.Body.{body, body_width, lines, numbers}
use Rattle.plan_formats.specs.Formats.{file_widths, tmcc_widths, file_fields, tmcc_fields, PlanFile, TmccData}
use Rattle.plan_formats.specs.declared.body.Widths.{Widths}
use Rattle.plan_formats.proofs.Joins.{width_append, width_numbers}
use Rattle.plan_formats.proofs.Unique.{Alike, alike_append, alike_numbers, same_fields}

-- the numbers of fields
values : List Field → List ℕ
values [] = []
values (f ∷ fs) = f.1 ∷ values fs

values_append : (fs gs : List Field) → values (fs ++ gs) ≡ values fs ++ values gs
unfolding values
values_append [] gs = refl
values_append (f ∷ fs) gs = ap (λ (l : List ℕ). f.1 ∷ l) (values_append fs gs)

values_numbers : (w : ℕ) (xs : List ℕ) → values (numbers w xs) ≡ xs
unfolding values numbers
values_numbers w [] = refl
values_numbers w (x ∷ xs) = ap (λ (l : List ℕ). x ∷ l) (values_numbers w xs)

-- two joined lists with fronts of one length
parts : (a b c d : List ℕ) → length a ≡ length c → a ++ b ≡ c ++ d → (a ≡ c) × (b ≡ d)
parts a b c d len e = (
  sym (take_at a b (length a) refl) ∙ ap (take (length a)) e ∙ take_at c d (length a) (sym len),
  sym (drop_at a b (length a) refl) ∙ ap (drop (length a)) e ∙ drop_at c d (length a) (sym len),
)

four_lines : List ℕ → List ℕ → List ℕ
four_lines ws cs =
    get_or ws 0 0 ∷ get_or cs 0 0 ∷ get_or ws 1 0 ∷ get_or cs 1 0 ∷ get_or ws 2 0 ∷ get_or cs 2 0 ∷ get_or ws 3 0 ∷ get_or cs 3 0 ∷ []

module _ (xs ys : List ℕ)
    (a : get_or xs 0 0 ≡ get_or ys 0 0) (b : get_or xs 1 0 ≡ get_or ys 1 0) (c : get_or xs 2 0 ≡ get_or ys 2 0) (d : get_or xs 3 0 ≡ get_or ys 3 0) where
  four_at : (k : ℕ) → k < 4 → get_or xs k 0 ≡ get_or ys k 0
  four_at zero h = a
  four_at (suc zero) h = b
  four_at (suc (suc zero)) h = c
  four_at (suc (suc (suc zero))) h = d
  four_at (suc (suc (suc (suc k)))) h = absurd (omega (arith, h))

  four_same : length xs ≡ 4 → length ys ≡ 4 → xs ≡ ys
  four_same lx ly = ext_get_or 0 xs ys (lx ∙ sym ly) (λ k h. four_at k (omega (arith, h, lx)))

-- lines are their mode words and their slot counts
same_lines :
    (ks ls : List LineNumbers) → map (λ (l : LineNumbers). l.word) ks ≡ map (λ (l : LineNumbers). l.word) ls →
    map (λ (l : LineNumbers). l.count) ks ≡ map (λ (l : LineNumbers). l.count) ls → ks ≡ ls
same_lines [] [] p q = refl
same_lines [] (l ∷ ls) p q = absurd (omega (arith, ap length p))
same_lines (k ∷ ks) [] p q = absurd (omega (arith, ap length p))
same_lines (k ∷ ks) (l ∷ ls) p q =
    let rest = same_lines ks ls (ap (drop 1) p) (ap (drop 1) q) in
    let word : k.word ≡ l.word = ap (λ (xs : List ℕ). get_or xs 0 0) p in
    let count : k.count ≡ l.count = ap (λ (xs : List ℕ). get_or xs 0 0) q in
    λ i. record { word = word i; count = count i } ∷ rest i

-- what the numbers of a format say of two plans' fields
pub record SameNumbers (n : ℕ) (f g : Fields) : Type 0 where
  pub lines : f.lines ≡ g.lines
  pub streams : take n f.streams ≡ take n g.streams
  pub ids : f.ts_ids ≡ g.ts_ids
  pub control : f.control ≡ g.control
  pub expanded : f.expanded ≡ g.expanded

module _ (w : Widths) (f : Fields) where
  body_values : List ℕ
  body_values = four_lines (words f) (counts f) ++ (take w.streams f.streams ++ (f.ts_ids ++ (f.control ∷ f.expanded ∷ [])))

  values_body : values (body w f) ≡ body_values
  unfolding body values lines four_lines body_values
  values_body =
      simp (values_append, values_numbers)

  pub width_body : Shaped f → w.streams ≤ 48 → width (body w f) ≡ body_width w
  unfolding body width lines
  width_body shaped room =
      let taken : length (take w.streams f.streams) ≡ w.streams = length-take-le w.streams f.streams (omega (arith, room, shaped.1)) in
      let wide : width (numbers w.stream (take w.streams f.streams)) ≡ w.stream * w.streams = width_numbers w.stream (take w.streams f.streams) ∙ ap (λ (n : ℕ). w.stream * n) taken in
      let ids : width (numbers 16 f.ts_ids) ≡ 16 * 8 = width_numbers 16 f.ts_ids ∙ ap (λ (n : ℕ). 16 * n) shaped.2 in
      simp (width_append) (omega (arith, wide, ids))

module _ (w : Widths) (f g : Fields) (sf : Shaped f) (sg : Shaped g) (room : w.streams ≤ 48) where
  body_alike : Alike (body w f) (body w g)
  unfolding body lines
  body_alike =
      let tf : length (take w.streams f.streams) ≡ w.streams = length-take-le w.streams f.streams (omega (arith, room, sf.1)) in
      let tg : length (take w.streams g.streams) ≡ w.streams = length-take-le w.streams g.streams (omega (arith, room, sg.1)) in
      let ends = alike_append (numbers 16 f.ts_ids) ((w.control, f.control) ∷ (w.expanded, f.expanded) ∷ []) (numbers 16 g.ts_ids) ((w.control, g.control) ∷ (w.expanded, g.expanded) ∷ [])
      (alike_numbers 16 f.ts_ids g.ts_ids (sf.2 ∙ sym sg.2)) (refl, (refl, tt)) in
      let streams = alike_append (numbers w.stream (take w.streams f.streams)) _ (numbers w.stream (take w.streams g.streams)) _
      (alike_numbers w.stream (take w.streams f.streams) (take w.streams g.streams) (tf ∙ sym tg)) ends in
      (refl, (refl, (refl, (refl, (refl, (refl, (refl, (refl, streams))))))))

  pub same_numbers : body w f ≡ body w g → SameNumbers w.streams f g
  unfolding body_values four_lines
  same_numbers e =
      let all : body_values w f ≡ body_values w g = sym (values_body w f) ∙ ap values e ∙ values_body w g in
      let w0 : get_or (words f) 0 0 ≡ get_or (words g) 0 0 = ap (λ (l : List ℕ). get_or l 0 0) all in
      let c0 : get_or (counts f) 0 0 ≡ get_or (counts g) 0 0 = ap (λ (l : List ℕ). get_or l 1 0) all in
      let w1 : get_or (words f) 1 0 ≡ get_or (words g) 1 0 = ap (λ (l : List ℕ). get_or l 2 0) all in
      let c1 : get_or (counts f) 1 0 ≡ get_or (counts g) 1 0 = ap (λ (l : List ℕ). get_or l 3 0) all in
      let w2 : get_or (words f) 2 0 ≡ get_or (words g) 2 0 = ap (λ (l : List ℕ). get_or l 4 0) all in
      let c2 : get_or (counts f) 2 0 ≡ get_or (counts g) 2 0 = ap (λ (l : List ℕ). get_or l 5 0) all in
      let w3 : get_or (words f) 3 0 ≡ get_or (words g) 3 0 = ap (λ (l : List ℕ). get_or l 6 0) all in
      let c3 : get_or (counts f) 3 0 ≡ get_or (counts g) 3 0 = ap (λ (l : List ℕ). get_or l 7 0) all in
      let rest : take w.streams f.streams ++ (f.ts_ids ++ (f.control ∷ f.expanded ∷ [])) ≡ take w.streams g.streams ++ (g.ts_ids ++ (g.control ∷ g.expanded ∷ [])) = ap (λ (l : List ℕ). drop 8 l) all in
      let tf : length (take w.streams f.streams) ≡ w.streams = length-take-le w.streams f.streams (omega (arith, room, sf.1)) in
      let tg : length (take w.streams g.streams) ≡ w.streams = length-take-le w.streams g.streams (omega (arith, room, sg.1)) in
      let first = parts (take w.streams f.streams) (f.ts_ids ++ (f.control ∷ f.expanded ∷ [])) (take w.streams g.streams) (g.ts_ids ++ (g.control ∷ g.expanded ∷ [])) (tf ∙ sym tg) rest in
      let second = parts f.ts_ids (f.control ∷ f.expanded ∷ []) g.ts_ids (g.control ∷ g.expanded ∷ []) (sf.2 ∙ sym sg.2) first.1 in
      record {
        lines = same_lines f.lines g.lines
            (four_same (words f) (words g) w0 w1 w2 w3 (length-map f.lines _ ∙ sf.0) (length-map g.lines _ ∙ sg.0))
            (four_same (counts f) (counts g) c0 c1 c2 c3 (length-map f.lines _ ∙ sf.0) (length-map g.lines _ ∙ sg.0));
        streams = first.0;
        ids = second.0;
        control = ap (λ (l : List ℕ). get_or l 0 0) second.1;
        expanded = ap (λ (l : List ℕ). get_or l 1 0) second.1;
      }

same_record : (f g : Fields) → f.slots ≡ g.slots → f.streams ≡ g.streams → (n : ℕ) → SameNumbers n f g → f ≡ g
same_record f g slots streams n s =
    λ i. record { slots = slots i; lines = s.lines i; streams = streams i; ts_ids = s.ids i; control = s.control i; expanded = s.expanded i }

-- streams that agree up to n and are 0 beyond
same_streams :
    (xs ys : List ℕ) (n : ℕ) → length xs ≡ length ys → take n xs ≡ take n ys →
    ((k : ℕ) → n ≤ k → get_or xs k 0 ≡ 0) → ((k : ℕ) → n ≤ k → get_or ys k 0 ≡ 0) → xs ≡ ys
same_streams xs ys n len e zx zy =
    ext_get_or 0 xs ys len
    (λ k h.
    elim (cases_lt k n) [ inl l ↦ sym (get_or-take n xs k 0 l) ∙ ap (λ (t : List ℕ). get_or t k 0) e ∙ get_or-take n ys k 0 l | inr l ↦ zx k l ∙ sym (zy k l) ])

pub width_file : (f : Fields) → Shaped f → f.slots ≤ 48 → width (file_fields f) ≡ 8 * (39 + f.slots)
unfolding file_fields width
width_file f shaped room = omega (arith, width_body (file_widths f.slots) f shaped room)

pub width_tmcc : (order : ℕ) (f : Fields) → Shaped f → width (tmcc_fields order f) ≡ 8 * 48
unfolding tmcc_fields width
width_tmcc order f shaped = omega (arith, width_body tmcc_widths f shaped (omega arith))

-- a plan file says one thing only
pub plan_file_same : (bytes : List ℕ) (f g : Fields) → PlanFile bytes f → PlanFile bytes g → f ≡ g
unfolding file_fields
plan_file_same bytes f g p q =
    let wf = width_file f p.shaped p.room in
    let wg = width_file g q.shaped q.room in
    let slots : f.slots ≡ g.slots = omega (arith, wf, wg, p.holds.size, q.holds.size) in
    let w = file_widths g.slots in
    let fw : body (file_widths f.slots) f ≡ body w f = ap (λ (n : ℕ). body (file_widths n) f) slots in
    let bits : joined 0 (file_fields f) ≡ joined 0 (file_fields g) = sym p.holds.bits ∙ ap (front bytes) (sym p.holds.size ∙ q.holds.size) ∙ q.holds.bits in
    let all = (same_fields 0 0 (file_fields f) (file_fields g)
    (refl, (refl, (refl, subst (λ (l : List Field). Alike l (body w g)) (sym fw) (body_alike w f g p.shaped q.shaped q.room))))
    p.holds.fits q.holds.fits bits).1 in
    let bodies : body w f ≡ body w g = sym fw ∙ ap (λ (l : List Field). drop 3 l) all in
    let numbers = same_numbers w f g p.shaped q.shaped q.room bodies in
    same_record f g slots
    (same_streams f.streams g.streams g.slots (p.shaped.1 ∙ sym q.shaped.1) numbers.streams
    (λ k h. p.beyond k (omega (arith, h, slots))) q.beyond)
    g.slots numbers

-- numbers whose bits are those of TMCC data say one thing only
pub joined_same :
    (o u : ℕ) (f g : Fields) → Shaped f → Shaped g → f.slots ≡ g.slots → Fit (tmcc_fields o f) → Fit (tmcc_fields u g) →
    joined 0 (tmcc_fields o f) ≡ joined 0 (tmcc_fields u g) → (o ≡ u) × (f ≡ g)
unfolding tmcc_fields
joined_same o u f g p q frame fit fits bits =
    let w = tmcc_widths in
    let all = (same_fields 0 0 (tmcc_fields o f) (tmcc_fields u g) (refl, body_alike w f g p q (omega arith)) fit fits bits).1 in
    let bodies : body w f ≡ body w g = ap (λ (l : List Field). drop 1 l) all in
    let numbers = same_numbers w f g p q (omega arith) bodies in
    let own : take 48 f.streams ≡ f.streams = take_all 48 f.streams (omega (arith, p.1)) in
    let other : take 48 g.streams ≡ g.streams = take_all 48 g.streams (omega (arith, q.1)) in (
      ap (λ (l : List Field). (get_or l 0 (0, 0)).1) all,
      same_record f g frame (sym own ∙ numbers.streams ∙ other) 48 numbers,
    )

-- and so do TMCC data
pub tmcc_same :
    (bytes : List ℕ) (slots o u : ℕ) (f g : Fields) → TmccData bytes slots o f → TmccData bytes slots u g → (o ≡ u) × (f ≡ g)
tmcc_same bytes slots o u f g p q =
    joined_same o u f g p.shaped q.shaped (p.frame ∙ sym q.frame) p.holds.fits q.holds.fits
    (sym p.holds.bits ∙ ap (front bytes) (sym p.holds.size ∙ q.holds.size) ∙ q.holds.bits)
