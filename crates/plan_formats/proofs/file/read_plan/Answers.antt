use Rattle.std.proofs.Common.{◌≡◌, ℕ, ◌+◌, ◌≤◌, List, get_or, sym, ap, ◌∙◌, subst, arith}
use Rattle.std.proofs.lemmas.Result.{err_from_is_err_and}
use Rattle.slot_plan.specs.Layout.{Shaped}
use Rattle.slot_plan.specs.declared.fields.Fields.{Fields}
use Rattle.plan_formats.specs.Bits.{front}
use Rattle.plan_formats.specs.Body.{body, body_width, Run}
use Rattle.plan_formats.specs.Cursors.{Took}
use Rattle.plan_formats.specs.Faults.{FilePasses}
use Rattle.plan_formats.specs.Formats.{file_widths, PlanFile, Bytes}
use Rattle.plan_formats.specs.declared.body.Widths.{Widths}
use Rattle.plan_formats.specs.declared.fault.FileFault.TheVariants.{Mark, Version, Size}
use Rattle.plan_formats.specs.declared.reader.BitReader.{BitReader}
use Rattle.plan_formats.proofs.Answered.{rule_first}
use Rattle.plan_formats.proofs.Backwards.{only_file}
use Rattle.plan_formats.proofs.Heads.{head_run, file_run}
use Rattle.plan_formats.proofs.Reading.{took_from}
use Rattle.plan_formats.proofs.Recovered.{width_body}
use Rattle.plan_formats.proofs.file.read_plan.Goals as goal

-- what was read after the head is what the file states
states :
    {a b : BitReader} (file : List ℕ) (slots : ℕ) (f : Fields) (w : Widths) → w ≡ file_widths slots → slots ≡ get_or file 5 0 → Bytes file →
    FilePasses file Mark × (FilePasses file Version × FilePasses file Size) → Shaped f → f.slots ≡ slots →
    ((k : ℕ) → w.streams ≤ k → get_or f.streams k 0 ≡ 0) → a.bytes.now ≡ file → a.place ≡ 48 → Took a (body w f) b → PlanFile file f
states {a} {b} file slots f w is own bytes head shaped frame beyond bytes-is at took =
    let widths : w ≡ file_widths f.slots = is ∙ ap file_widths (sym frame) in
    let size = head.1.1 in
    let room : w.streams ≤ 48 = rw widths (omega (arith, frame, own, size.1)) in
    let run = subst (λ (v : Widths). Run (front file 48) 48 (body v f) (front file (48 + body_width v)) (48 + body_width v)) widths
    (took_from (body w f) file 48 (body_width w) bytes-is at (width_body w f shaped room) took) in
    record {
      shaped = shaped;
      room = omega (arith, frame, own, size.1);
      beyond = subst (λ (v : Widths). (k : ℕ) → v.streams ≤ k → get_or f.streams k 0 ≡ 0) widths beyond;
      holds = file_run file f (front file 48) (head_run file f.slots bytes head.0 head.1.0 (frame ∙ own)) run (omega (arith, frame, own, size.2));
    }

pub returns-in_err-new : goal.returns-in_err-new
returns-in_err-new c =
    let file = c.args.file.now in
    let head = c.in_ok-slots.ensures in
    let bytes : Bytes file = λ k. omega (arith, c.type_inv.file k) in
    let got = states file c.in_ok-slots.slots c.read-fields.result c.widths.result c.widths.ensures head.0 bytes head.1 c.read-fields.ensures.shaped c.read-fields.ensures.slots
    c.read-fields.ensures.beyond c.new-bits.ensures.bytes c.new-bits.ensures.place c.read-fields.ensures.took in
    let p = err_from_is_err_and c.from_residual-in_err-new.result c.from_residual-in_err-new.ensures.1 in
    rw (p.1, p.2)
    (record {
      read = rule_first file c.read-fields.result got head.1.0 head.1.1.0 head.1.1.1 c.in_err-new.field-0.0 c.in_err-new.ensures;
      only = tt;
    })

pub returns : goal.returns
returns c =
    let file = c.args.file.now in
    let head = c.in_ok-slots.ensures in
    let bytes : Bytes file = λ k. omega (arith, c.type_inv.file k) in
    let got = states file c.in_ok-slots.slots c.read-fields.result c.widths.result c.widths.ensures head.0 bytes head.1 c.read-fields.ensures.shaped c.read-fields.ensures.slots
    c.read-fields.ensures.beyond c.new-bits.ensures.bytes c.new-bits.ensures.place c.read-fields.ensures.took in
    let f = c.in_ok-new.field-0.fields in
    let plan : PlanFile file f = subst (λ (g : Fields). PlanFile file g) (sym c.in_ok-new.ensures) got in
    record { read = plan; only = only_file file f bytes plan }
