-- What was written reads back. Assumes nothing.
use Rattle.std.proofs.Common.{ℕ, ◌^◌, ◌<◌, ◌≤◌, List, [], ◌∷◌, take, Ok, Err, sym, ◌∙◌, subst, arith}
use Rattle.slot_plan.specs.Layout.{words, counts}
use Rattle.slot_plan.specs.Rules.{Valid, Passes}
use Rattle.slot_plan.specs.Faults.{First, number, rank}
use Rattle.slot_plan.specs.declared.fault.PlanFault.{PlanFault}
use Rattle.slot_plan.specs.declared.fault.PlanFault.TheVariants.{SlotCount, ModeWord, LineCount, CountSum, SlotStream, SpareBits}
use Rattle.slot_plan.specs.declared.fields.Fields.{Fields}
use Rattle.plan_formats.specs.Bits.{Fit}
use Rattle.plan_formats.specs.Body.{body, lines, numbers}
use Rattle.plan_formats.specs.declared.body.Widths.{Widths}
use Rattle.plan_formats.proofs.Joins.{fit_right}
use Rattle.plan_formats.specs.Calls.{FileReadsBack, TmccReadsBack, OnlyFile, OnlyData}
use Rattle.plan_formats.specs.Faults.{FilePasses}
use Rattle.plan_formats.specs.Formats.{Bytes, PlanFile, TmccData, tmcc_fields, tmcc_widths}
use Rattle.plan_formats.specs.declared.fault.FileFault.{FileFault}
use Rattle.plan_formats.specs.declared.fault.FileFault.TheVariants.{Mark, Version, Size, Rule}
use Rattle.plan_formats.proofs.Prefixes.{mark_passes, version_passes, size_passes}
use Rattle.plan_formats.proofs.Recovered.{plan_file_same, tmcc_same}
use Rattle.plan_formats.proofs.Unique.{holds_same}

module _ (file : List ℕ) (f : Fields) (bytes : Bytes file) (p : PlanFile file f) (v : Valid f) where
  all_pass : (e : FileFault) → FilePasses file e
  all_pass Mark = mark_passes file f bytes p
  all_pass Version = version_passes file f bytes p
  all_pass Size = size_passes file f bytes p (v SlotCount).0
  all_pass (Rule e) = λ g q. subst (λ (h : Fields). Passes h e) (plan_file_same file f g p q) (v e)

  pub file_back : FileReadsBack file f
  file_back (Ok plan) q = plan_file_same file plan.fields f q p
  file_back (Err e) first = first.fails (all_pass e)

pub only_file : (file : List ℕ) (f : Fields) → Bytes file → PlanFile file f → OnlyFile file f
only_file file f bytes p other ob q = holds_same other file _ ob bytes q.holds p.holds

pub tmcc_back :
    (d : List ℕ) (order : ℕ) (f : Fields) → TmccData d f.slots order f → Valid f → TmccReadsBack d order f
tmcc_back d order f t v (Ok got) u =
    let same = tmcc_same d f.slots u.order order u.fields f u.states t in
    (u.answer.0 ∙ same.0, u.answer.1 ∙ same.1)
tmcc_back d order f t v (Err e) u =
    let same = tmcc_same d f.slots u.order order u.fields f u.states t in
    u.answer.fails (subst (λ (h : Fields). Passes h e) (sym same.1) (v e))

pub only_data : (d : List ℕ) (order : ℕ) (f : Fields) → Bytes d → TmccData d f.slots order f → OnlyData d order f
only_data d order f bytes t other ob q = holds_same other d _ ob bytes q.holds t.holds

-- the last two fields fit
ends_fit : (w : Widths) (f : Fields) → Fit (body w f) → (f.control < 2 ^ w.control) × (f.expanded < 2 ^ w.expanded)
unfolding body Fit
ends_fit w f fit =
    let last = fit_right (numbers 16 f.ts_ids) ((w.control, f.control) ∷ (w.expanded, f.expanded) ∷ [])
    (fit_right (numbers w.stream (take w.streams f.streams)) _ (fit_right (lines w.word w.count (words f) (counts f)) _ fit)) in
    (last.0, last.1.0)

-- TMCC data for a frame that there is break rule 4, 5 or 6
pub rule_number :
    (d : List ℕ) (slots order : ℕ) (f : Fields) → TmccData d slots order f → 1 ≤ slots → slots ≤ 48 →
    (e : PlanFault) → First (Passes f) rank e → (4 ≤ number e) × (number e ≤ 6)
unfolding tmcc_fields Fit
rule_number d slots order f t low high SlotCount first = absurd (first.fails (omega (arith, low, t.frame), omega (arith, high, t.frame)))
rule_number d slots order f t low high (ModeWord line) first = (omega arith, omega arith)
rule_number d slots order f t low high (LineCount line) first = (omega arith, omega arith)
rule_number d slots order f t low high CountSum first = (omega arith, omega arith)
rule_number d slots order f t low high (SlotStream slot) first = (omega arith, omega arith)
rule_number d slots order f t low high SpareBits first = absurd (first.fails (ends_fit tmcc_widths f t.holds.fits.1))
