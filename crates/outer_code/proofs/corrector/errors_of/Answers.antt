use Rattle.std.proofs.Common.{◌≡◌, ◌≤◌, length, get_or, Option, Some, None, MatchOption, Decides, true, false, Bool, refl, rules, arith}
use Rattle.std.specs.Bool.{then_some}
use Rattle.locator.specs.declared.errors.Errors.{Errors}
use Rattle.locator.specs.Errors.{corrected}
use Rattle.outer_code.proofs.Seeking.{none_found, not_permitted, found}
use Rattle.outer_code.proofs.corrector.errors_of.Goals as goal

-- what is left of errors by a test of which R tells the answer
filtered : (o r : Option Errors) {N M : Type 0} {C D : Errors → Type 0} (R : Errors → Bool → Type 0)
    → MatchOption o N C → MatchOption o (r ≡ None) (λ x. (b : Bool) × R x b × (r ≡ then_some b x)) → (N → M)
    → ((e : Errors) → C e → R e true → D e) → ((e : Errors) → C e → R e false → M) → MatchOption r M D
filtered None r R n e none kept left = rw e (none n)
filtered (Some x) r R n (true, h, e) none kept left = rw e (kept x n h)
filtered (Some x) r R n (false, h, e) none kept left = rw e (left x n h)

pub returns : goal.returns
returns g c =
    let P = g.K.WordKind.permitted in
    let w = c.args.word.now in
    let s = c.syndromes_of in
    let short : length w ≤ 255 = omega (arith, g.met.K.WordKind.short) in
    filtered c.find-found.result c.filter.result _ c.find-found.ensures c.filter.ensures
    (λ n. none_found P c.args.bound c.requires.bound w short (λ k. (c.type_inv.word k).fits) c.args.rest c.requires.rest s.result s.ensures (rw c.from.ensures at n))
    (λ e h t.
    let test : Decides true (P (get_or (corrected e.places.count e.places.list e.values w) 0 0)) = search rules in
    found P c.args.bound c.requires.bound w short (λ k. (c.type_inv.word k).fits) c.args.rest c.requires.rest s.result s.ensures
    e.places.count e.places.list e.values (rw c.from.ensures at h) (test.0 refl))
    (λ e h t.
    let test : Decides false (P (get_or (corrected e.places.count e.places.list e.values w) 0 0)) = search rules in
    not_permitted P c.args.bound c.requires.bound w short (λ k. (c.type_inv.word k).fits) c.args.rest c.requires.rest s.result s.ensures
    e.places.count e.places.list e.values (rw c.from.ensures at h) (λ p. cc (test.1 p)))
