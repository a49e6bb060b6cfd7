use Rattle.std.proofs.Common.{◌≡◌, ℕ, ◌<◌, List, get_or, sym, subst, arith}
use Rattle.locator.specs.Roots.{OfDegree}
use Rattle.locator.specs.Errors.{ByteAt, Meets}
use Rattle.locator.proofs.Correcting.{codeword_left}
use Rattle.locator.proofs.Extending.{extended}
use Rattle.locator.proofs.Near.{not_too_many, leads_to, as_many}
use Rattle.locator.proofs.errors.Errors.find.Goals as goal

-- the bytes at the places, in words of the length asked for
bytes_in : (s : List ℕ) (m n count : ℕ) (list values : List ℕ) → m ≡ n
    → ((k : ℕ) → k < count → ByteAt s m count list k (get_or values k 0)) → (k : ℕ) → k < count → ByteAt s n count list k (get_or values k 0)
bytes_in s m n count list values e h k l = subst (λ (i : ℕ). ByteAt s i count list k (get_or values k 0)) e (h k l)

pub returns-then-places-locator : goal.returns-then-places-locator
returns-then-places-locator c =
    let s = c.args.syndromes.now in
    let n = c.args.len in
    let count = c.of-places.result.count in
    let list = c.of-places.result.list in
    let values = c.bytes_at-values.result in
    let locator = c.in_ok-locator.locator in
    let locates = c.in_ok-locator.ensures in
    let roots = c.of-places.ensures.roots in
    let same : count ≡ locator.degree = c.if-places-locator.true in
    let meets : Meets s n count list values
    = subst (λ (m : ℕ). Meets s m count list values) c.of-places.ensures.len c.bytes_at-values.ensures.meets in
    record {
      places_size = roots.size;
      values_size = c.bytes_at-values.ensures.size;
      bytes = c.bytes_at-values.ensures.bytes;
      room = omega (arith, roots.room, locates.few);
      order = roots.order;
      codeword = λ short w size f v.
          codeword_left n count list values roots.order w size s c.told-syndromes f c.bytes_at-values.ensures.bytes v
          (extended n count list values s c.fits-syndromes locator.coefficients
          (subst (λ (d : ℕ). OfDegree 9 d locator.coefficients) (sym same) locates.shape) roots.only
          (λ i l. locates.annihilates i (omega (arith, c.told-syndromes))) (meets short));
      leads = λ short small w d near.
          leads_to s c.told-syndromes n c.args.bound short small w d near locator.coefficients locator.degree count list values locates roots
          (bytes_in s c.of-places.result.len n count list values c.of-places.ensures.len c.bytes_at-values.ensures.each);
    }

pub returns-else-places-locator : goal.returns-else-places-locator
returns-else-places-locator c short small w d near =
    let count = c.of-places.result.count in
    let locator = c.in_ok-locator.locator in
    let roots = c.of-places.ensures.roots in
    c.if-places-locator.false (omega (
      arith,
      roots.room,
      as_many c.args.syndromes.now c.told-syndromes c.args.len c.args.bound short small w d near locator.coefficients
          locator.degree count c.of-places.result.list c.bytes_at-values.result c.in_ok-locator.ensures roots
          (bytes_in c.args.syndromes.now c.of-places.result.len c.args.len count c.of-places.result.list c.bytes_at-values.result
          c.of-places.ensures.len c.bytes_at-values.ensures.each),
    ))

pub returns-in_err-locator : goal.returns-in_err-locator
returns-in_err-locator c =
    rw c.from_residual.ensures
    (λ short small w d near.
    not_too_many c.args.syndromes.now c.told-syndromes c.args.len c.args.bound short small w d near
    c.in_err-locator.ensures)
