use Rattle.std.proofs.Common.{◌≡◌, ℕ, List, Result, Ok, Err, IsOk, length, refl, sym, ◌∙◌, subst}
use mathlib.Core.Logic.{∥∥₁_elim}
use denote.Struct.Props.{props}
use Rattle.slot_plan.specs.Rules.{Passes}
use Rattle.slot_plan.specs.declared.fault.PlanFault.{PlanFault}
use Rattle.slot_plan.specs.declared.fields.Fields.{Fields}
use Rattle.plan_formats.specs.Bits.{front}
use Rattle.plan_formats.specs.Body.{numbers, Run}
use Rattle.plan_formats.specs.Calls.{Unpacked}
use Rattle.plan_formats.specs.Formats.{TmccData}
use Rattle.plan_formats.specs.Kept.{Keeps, KeepsSome}
use Rattle.plan_formats.specs.declared.tmcc.Tmcc.{Tmcc}
use Rattle.plan_formats.proofs.Recovered.{tmcc_same}
use Rattle.plan_formats.proofs.Stowed.{kept_data, data_keeps}
use Rattle.plan_formats.proofs.kept.KeptPlan.plan.Goals as goal

-- reading cannot fail where what was packed is a plan
is_read :
    (bytes : List ℕ) (slots : ℕ) (packed : List ℕ) (r : Result Tmcc PlanFault) → KeepsSome slots packed → length bytes ≡ 48 →
    Run 0 0 (numbers 64 packed) (front bytes 384) 384 → Unpacked bytes slots r → IsOk r
is_read bytes slots packed (Ok t) some len run u = refl
is_read bytes slots packed (Err e) some len run u =
    let f = some.2.0 in
    let own = kept_data bytes slots packed f some.2.1 len run in
    let same = tmcc_same bytes slots u.order 0 u.fields f u.states own in
    absurd (u.answer.fails (subst (λ (g : Fields). Passes g e) (sym same.1) (some.2.2 e)))

pub unwrap-requires : goal.unwrap-requires
unwrap-requires c =
    let k = c.args.self.now in
    ∥∥₁_elim k.keeps (hlevel props)
    (λ some. is_read c.unpack-data.result k.slots k.packed c.read.result some c.unpack-data.ensures.len c.unpack-data.ensures.run c.read.ensures.read)

pub returns : goal.returns
returns c =
    let k = c.args.self.now in
    let bytes = c.unpack-data.result in
    let u = rw c.unwrap.ensures at c.read.ensures.read in
    let zero : u.order ≡ 0 =
    ∥∥₁_elim k.keeps (hlevel props)
    (λ some.
    let own = kept_data bytes k.slots k.packed some.2.0 some.2.1 c.unpack-data.ensures.len c.unpack-data.ensures.run in
    (tmcc_same bytes k.slots u.order 0 u.fields some.2.0 u.states own).0) in
    let states : TmccData bytes k.slots 0 u.fields = subst (λ (o : ℕ). TmccData bytes k.slots o u.fields) zero u.states in
    let kept = data_keeps bytes k.slots k.packed u.fields states c.unpack-data.ensures.run in
    record {
      kept = subst (λ (f : Fields). Keeps k.slots k.packed f) (sym u.answer.1) kept;
      only = λ f other.
          let own = kept_data bytes k.slots k.packed f other c.unpack-data.ensures.len c.unpack-data.ensures.run in
          (tmcc_same bytes k.slots 0 0 f u.fields own states).1 ∙ sym u.answer.1;
    }
