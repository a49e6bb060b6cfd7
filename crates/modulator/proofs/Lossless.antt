-- The law of runs.
use Rattle.std.proofs.Common.{◌≡◌, ℕ, List, ◌++◌, take, Ok, Err, Result, refl, ap, ◌∙◌, append_assoc, take-append-drop}
use Rattle.slot_plan.specs.declared.fields.Fields.{Fields}
use Rattle.feed.specs.Packets.{Packet, Lists}
use Rattle.modulator.specs.Carried.{in_super_frame}
use Rattle.modulator.specs.Fills.{Sent, Filled, Fill, placed}
use Rattle.modulator.specs.States.{Load, Install}
use Rattle.modulator.specs.Runs.{placed_so_far, Each, Run, loaded, filled, refused, installed, NothingLost, Lawful, Begins, FillContinues, InstallContinues, Law}
use Rattle.modulator.specs.declared.fault.ModulatorFault.{ModulatorFault}
use Rattle.modulator.specs.declared.state.Bare.{Bare}
use Rattle.modulator.specs.declared.state.Loaded.{Loaded}
use Rattle.modulator.specs.declared.state.Tally.{Tally}
use Rattle.modulator.specs.declared.state.Unloaded.{Unloaded}
use Rattle.modulator.proofs.Carrying.{placed_first, idle_null}

-- what a fill places, followed by what it leaves, is what waited
pub placed_rest :
    {m : Loaded} {before after : Lists} {sent : Sent} {out : List ℕ} → Filled m before sent out after →
    (r : ℕ) → placed sent r ++ after r ≡ before r
placed_rest {m} {before} {after} {sent} {out} f r =
    let waited = ap (λ (ls : Lists). ls r) f.lists in
    ap (λ (ps : List Packet). ps ++ after r) (placed_first sent f.slot_words r)
    ∙ ap (λ (ps : List Packet). take (in_super_frame sent.plan r) ps ++ after r) waited
    ∙ ap (λ (ps : List Packet). take (in_super_frame sent.plan r) (before r) ++ ps) (f.rest r)
    ∙ take-append-drop (in_super_frame sent.plan r) (before r)

law : {start : Lists} {m : Loaded} {waiting : Lists} {sent : List Sent} → Run start m waiting sent → NothingLost start waiting sent
unfolding placed_so_far Each
law (loaded bare p l) = record { packets = λ r. refl; nulls = tt }
law {waiting = waiting} (filled {earlier = earlier} sent out run f) =
    let past = law run in
    record {
      packets = λ r.
          append_assoc (placed_so_far earlier r) (placed sent r) (waiting r)
          ∙ ap (λ (ps : List Packet). placed_so_far earlier r ++ ps) (placed_rest f r)
          ∙ past.packets r;
      nulls = (λ r. idle_null sent f.slot_words r, past.nulls);
    }
law {sent = sent} (refused buffer fault out run f) =
    let past = law run in
    record {
      packets = λ r. ap (λ (ps : List Packet). placed_so_far sent r ++ ps) (f.untaken r) ∙ past.packets r;
      nulls = past.nulls;
    }
law (installed p answer run i) = law run

pub lossless : Law
lossless start m waiting sent run = law run

lawful : {start : Lists} {m : Loaded} {waiting : Lists} {sent : List Sent} → Run start m waiting sent → Lawful start m waiting sent
lawful run = record { run = run; law = law run }

pub load_begins : (bare : Bare) (p : Fields) (answer : Result Loaded Unloaded) → Load bare p answer → Begins answer
load_begins bare p (Ok m) l = λ start. lawful (loaded bare p l)
load_begins bare p (Err e) l = tt

pub fill_continues :
    (m : Loaded) (before : Lists) (buffer : List ℕ) (answer : Result Tally ModulatorFault) (out : List ℕ) (after : Lists) →
    Fill m before buffer answer out after → FillContinues m before answer out after
fill_continues m before buffer (Ok x) out after f = (f.1.0, f.1.1, λ start earlier run. lawful (filled f.1.0 out run f.1.1), f.1.2)
fill_continues m before buffer (Err fault) out after f = λ start earlier run. lawful (refused buffer fault out run f)

pub install_continues :
    (m : Loaded) (p : Fields) (answer : Result (Unit {0}) ModulatorFault) (after : Loaded) → Install m p answer after → InstallContinues m after
install_continues m p answer after i = λ start waiting earlier run. lawful (installed p answer run i)
