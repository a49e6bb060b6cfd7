use Rattle.std.proofs.Common.{◌≡◌, ℕ, List, length, sym, refl, ap, ◌∙◌, subst, arith}
use Rattle.std.proofs.lemmas.Result.{err_from_is_err_and}
use Rattle.slot_plan.specs.Layout.{Shaped}
use Rattle.slot_plan.specs.declared.fields.Fields.{Fields}
use Rattle.plan_formats.specs.Bits.{Field, front, width, Holds}
use Rattle.plan_formats.specs.Body.{Run}
use Rattle.plan_formats.specs.Cursors.{Took}
use Rattle.plan_formats.specs.Formats.{tmcc_fields, TmccData}
use Rattle.plan_formats.specs.declared.reader.BitReader.{BitReader}
use Rattle.plan_formats.proofs.Backwards.{only_data, rule_number}
use Rattle.plan_formats.proofs.Reading.{took_append, took_holds}
use Rattle.plan_formats.proofs.Recovered.{width_tmcc}
use Rattle.plan_formats.proofs.tmcc.Tmcc.read.Goals as goal

-- what was gone over from a reader's place in its bytes, whichever reader went there
took_there :
    {a b c : BitReader} (fs : List Field) → Took b fs c → b.bytes.now ≡ a.bytes.now → b.place ≡ a.place → Took a fs c
took_there {a} {b} {c} fs took same at =
    let over = subst (λ (l : List ℕ). Run (front l b.place) b.place fs (front l c.place) c.place) same took.run in
    record { bytes = took.bytes ∙ same; run = subst (λ (k : ℕ). Run (front a.bytes.now k) k fs (front a.bytes.now c.place) c.place) at over }

-- what was read is what the data state
states :
    {a b : BitReader} (bytes : List ℕ) (slots order : ℕ) (f : Fields) → a.bytes.now ≡ bytes → a.place ≡ 0 → length bytes ≡ 48 → Shaped f → f.slots ≡ slots →
    Took a (tmcc_fields order f) b → TmccData bytes slots order f
states {a} {b} bytes slots order f is at len shaped frame took =
    let wide = width_tmcc order f shaped in
    let holds = took_holds (tmcc_fields order f) at (omega (arith, wide, len, ap length is)) took in
    record { shaped = shaped; frame = frame; holds = subst (λ (l : List ℕ). Holds l (tmcc_fields order f)) is holds }

pub returns-in_err-plan : goal.returns-in_err-plan
unfolding tmcc_fields width
returns-in_err-plan c =
    let bytes = c.args.bytes.now in
    let f = c.read-2.result in
    let order = c.unwrap-order.result.value in
    let is : order ≡ c.read.result = rw c.unwrap-order.ensures at c.new.ensures in
    let first = rw (sym is) at c.read.ensures.took in
    let own = states bytes c.args.slots order f c.new-bits.ensures.bytes c.new-bits.ensures.place c.told-bytes c.read-2.ensures.shaped
    c.read-2.ensures.slots (took_append _ _ first (took_there _ c.read-2.ensures.took (cc) (omega arith))) in
    let p = err_from_is_err_and c.from_residual.result c.from_residual.ensures.1 in
    rw (p.1, p.2)
    (record { read = record { order = order; fields = f; states = own; answer = c.in_err-plan.ensures }; only = tt; rules = λ low high. rule_number bytes c.args.slots order f own low high c.in_err-plan.field-0.0 c.in_err-plan.ensures })

pub returns : goal.returns
unfolding tmcc_fields width
returns c =
    let bytes = c.args.bytes.now in
    let f = c.read-2.result in
    let order = c.unwrap-order.result.value in
    let is : order ≡ c.read.result = rw c.unwrap-order.ensures at c.new.ensures in
    let first = rw (sym is) at c.read.ensures.took in
    let own = states bytes c.args.slots order f c.new-bits.ensures.bytes c.new-bits.ensures.place c.told-bytes c.read-2.ensures.shaped
    c.read-2.ensures.slots (took_append _ _ first (took_there _ c.read-2.ensures.took (cc) (omega arith))) in
    let same = c.in_ok-plan.ensures in
    let g = c.in_ok-plan.plan.fields in
    let framed : TmccData bytes f.slots order f = subst (λ (n : ℕ). TmccData bytes n order f) (sym c.read-2.ensures.slots) own in
    let again : TmccData bytes g.slots order g = subst (λ (h : Fields). TmccData bytes h.slots order h) (sym same) framed in
    record {
      read = record { order = order; fields = f; states = own; answer = (refl, same) };
      only = only_data bytes order g c.fits-bytes again;
      rules = tt;
    }
