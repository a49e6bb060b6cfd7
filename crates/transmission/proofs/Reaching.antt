-- Runs that go on, super-frame by super-frame.
use Rattle.std.proofs.Common.{◌≡◌, ℕ, suc, ◌+◌, ◌<◌, Bool, cond, List, [], ◌∷◌, length, get_or, take, IfOk, Ok, Err, Result, sym, refl, ap, ◌∙◌, subst, add-one, arith, eq-eqb, ne_eqb}
use Rattle.std.proofs.lemmas.List.Sums.{fold_more}
use Rattle.slot_plan.specs.declared.fields.Fields.{Fields}
use Rattle.plan_formats.proofs.Stowed.{keeps_same}
use Rattle.feed.specs.Packets.{Lists}
use Rattle.modulator.specs.Runs.{Run, Lawful, filled, FillContinues}
use Rattle.modulator.specs.declared.state.Loaded.{Loaded}
use Rattle.modulator.specs.declared.state.Tally.{Tally}
use Rattle.modulator.proofs.Lossless.{lossless}
use Rattle.transmission.specs.Courses.{Course, HearsOn, SendsOn}
use Rattle.transmission.specs.declared.event.Event.{Event}
use Rattle.transmission.specs.Plans.{OnAir, loaded, installed, after_install, due, on_air}
use Rattle.transmission.specs.Transmissions.{Airs, Continues, HasPlan, FillsOn, Planned, Written, Reached, Transmitted, GoesOn, WholeRun}
use Rattle.run_inputs.specs.declared.change.Change.{Change}
use Rattle.slot_plan.specs.declared.plan.Plan.{Plan}

-- what follows from the answer of a call that went well
pub made_on : {E P Q : Type 0} (r : Result (Unit {0}) E) → (P → Q) → IfOk r (λ _. P) → IfOk r (λ _. Q)
made_on (Ok x) f h = f h
made_on (Err e) f h = h

-- a fill goes on by a super-frame of what is on air
pub fills_on :
    (m : Loaded) (before after : Lists) (tally : Tally) (out : List ℕ) → FillContinues m before (Ok tally) out after →
    (a : OnAir) → Airs m a → FillsOn a m before out after
fills_on m before after tally out f a airs =
    let own = f.1.state in (
      f.0,
      (sym own.order_is ∙ airs.order_is, keeps_same m.kept.slots m.kept.packed f.0.plan a.plan own.plan_is airs.plan_is),
      f.1,
    )

pub due_none : (n : ℕ) (installs : List (Change (Result Plan ℕ))) (a : OnAir) → due n (take 0 installs) a ≡ a
unfolding due
due_none n installs a = refl

-- one install more
pub due_more :
    (n : ℕ) (installs : List (Change (Result Plan ℕ))) (a : OnAir) (i : ℕ) (d : Change (Result Plan ℕ)) → i < length installs →
    due n (take (i + 1) installs) a ≡ after_install n (due n (take i installs) a) (get_or installs i d)
unfolding due
due_more n installs a i d h = fold_more (after_install n) a installs i d h

-- the start of a run
pub begin :
    (p : Fields) (installs : List (Change (Result Plan ℕ))) (m : Loaded) (start : Lists) → Airs m (loaded p) → Run start m start [] →
    Reached p installs start 0 m start []
unfolding on_air Planned Written
begin p installs m start airs run = record { sent = []; number = refl; planned = tt; written = tt; state = airs; run = run }

-- one super-frame more
pub reach :
    (p : Fields) (installs : List (Change (Result Plan ℕ))) (start : Lists) (n : ℕ) (m next : Loaded) (before after : Lists) (frames : List (List ℕ)) (bytes : List ℕ) →
    Reached p installs start n m before frames → ((a : OnAir) → Airs m a → Airs next (due (n + 1) installs a)) → Continues m next →
    ((a : OnAir) → Airs next a → FillsOn a next before bytes after) → Reached p installs start (n + 1) next after (bytes ∷ frames)
unfolding on_air Planned Written
reach p installs start n m next before after frames bytes r state run fill =
    let now : OnAir = on_air p installs (suc n) in
    let airs : Airs next now = subst (λ (k : ℕ). Airs next (due k installs (on_air p installs n))) (add-one n) (state (on_air p installs n) r.state) in
    let f = fill now airs in
    record {
      sent = f.0 ∷ r.sent;
      number = ap suc r.number ∙ sym (add-one n);
      planned = (subst (λ (k : ℕ). HasPlan f.0 (on_air p installs (suc k))) (sym r.number) f.1, r.planned);
      state = subst (λ (k : ℕ). Airs next (on_air p installs k)) (sym (add-one n)) airs;
      written = ((next, before, after, f.2), r.written);
      run = filled f.0 bytes (run start before r.sent r.run) f.2;
    }

-- the whole run
pub whole :
    (p : Fields) (installs : List (Change (Result Plan ℕ))) (n : ℕ) (m : Loaded) (before after : Lists) (frames : List (List ℕ)) → Reached p installs before n m after frames →
    Transmitted p installs n before after frames
whole p installs n m before after frames r =
    record {
      sent = r.sent;
      number = r.number;
      planned = r.planned;
      written = r.written;
      last = m;
      lawful = record { run = r.run; law = lossless before m after r.sent r.run };
    }

-- of which no packet is lost or doubled
pub lossless_run :
    (p : Fields) (installs : List (Change (Result Plan ℕ))) (n : ℕ) (before after : Lists) (frames : List (List ℕ)) → Transmitted p installs n before after frames →
    WholeRun n before after
lossless_run p installs n before after frames t = (t.last, t.sent, t.number, t.lawful)

-- every run goes on to a modulator that continues it, by no super-frame
pub stays : (m next : Loaded) → Continues m next → (waiting : Lists) → GoesOn 0 m waiting next waiting
stays m next on waiting = λ start earlier run.
    let r = on start waiting earlier run in
    (earlier, omega arith, record { run = r; law = lossless start next waiting earlier r })

-- by the super-frame of a fill
pub fill_goes :
    (m : Loaded) (before after : Lists) (tally : Tally) (out : List ℕ) → FillContinues m before (Ok tally) out after → GoesOn 1 m before m after
fill_goes m before after tally out f = λ start earlier run. (f.0 ∷ earlier, omega arith, f.2 start earlier run)

-- by one super-frame more
pub goes_more :
    (n k : ℕ) (m now next last : Loaded) (before waiting after : Lists) → n + 1 ≡ k → GoesOn n m before now waiting → Continues now next →
    GoesOn 1 next waiting next after → last ≡ next → GoesOn k m before last after
goes_more n k m now next last before waiting after place past on one same = λ start earlier run.
    let before_it = past start earlier run in
    let more = one start before_it.0 (on start waiting before_it.0 before_it.2.run) in
    (more.0, omega (arith, before_it.1, more.1), subst (λ (l : Loaded). Lawful start l after more.0) (sym same) more.2)

module _ {O : Type 0} (sends : O → List ℕ → O → Type 0) (hears : O → Event → O → Type 0) (installs : List (Change (Result Plan ℕ)))
    (first : Loaded) (held : Lists) (o : O) where
  -- whatever run began with the first modulator, n super-frames of it are sent, in a course from the outlet o
  abbrev pub Reaches : ℕ → Loaded → Lists → O → Type 0
  Reaches n m waiting q =
      (p : Fields) (start : Lists) → Reached p installs start 0 first held [] →
      (frames : List (List ℕ)) × Reached p installs start n m waiting frames × Course sends hears o q frames

  -- and one more
  pub reach_more :
      (n k : ℕ) (m next last : Loaded) (waiting after : Lists) (p q r : O) (bytes : List ℕ) → n + 1 ≡ k → Reaches n m waiting p →
      ((a : OnAir) → Airs m a → Airs next (due k installs a)) → Continues m next → HearsOn sends hears p q →
      ((a : OnAir) → Airs next a → FillsOn a next waiting bytes after) → SendsOn sends hears q bytes r → last ≡ next → Reaches k last after r
  reach_more n k m next last waiting after p q r bytes place past state run told fills sent same = λ f start begun.
      let before = past f start begun in
      let due_next = λ (a : OnAir) (airs : Airs m a). subst (λ (j : ℕ). Airs next (due j installs a)) (sym place) (state a airs) in
      let one = reach f installs start n m next waiting after before.0 bytes before.1 due_next run fills in (
        bytes ∷ before.0,
        subst (λ (l : Loaded). Reached f installs start k l after (bytes ∷ before.0)) (sym same)
            (subst (λ (j : ℕ). Reached f installs start j next after (bytes ∷ before.0)) place one),
        sent o before.0 (told o before.0 before.2),
      )

module _ (n : ℕ) (installs : List (Change (Result Plan ℕ))) (i : ℕ) (next : Change (Result Plan ℕ)) (from m : Loaded) (within : i < length installs)
    (here : next ≡ get_or installs i next) (before : (a : OnAir) → Airs from a → Airs m (due n (take i installs) a)) where
  -- what is on air after one install more
  one_more : (last : Loaded) → ((b : OnAir) → Airs m b → Airs last (after_install n b next)) → (a : OnAir) → Airs from a → Airs last (due n (take (i + 1) installs) a)
  one_more last step a airs =
      let all = due_more n installs a i next within ∙ ap (after_install n (due n (take i installs) a)) (sym here) in
      subst (λ (b : OnAir). Airs last b) (sym all) (step (due n (take i installs) a) (before a airs))

  -- one that comes before this super-frame
  pub install_made :
      (last : Loaded) → next.at ≡ n → ((b : OnAir) → Airs m b → Airs last (installed b next.plan)) →
      (a : OnAir) → Airs from a → Airs last (due n (take (i + 1) installs) a)
  install_made last at step =
      one_more last
      (λ b airs. subst (λ (t : Bool). Airs last (cond t (installed b next.plan) b)) (sym (eq-eqb next.at n at)) (step b airs))

  -- one that comes before another
  pub install_passed : (next.at ≡ n → ⊥) → (a : OnAir) → Airs from a → Airs m (due n (take (i + 1) installs) a)
  install_passed other =
      one_more m (λ b airs. subst (λ (t : Bool). Airs m (cond t (installed b next.plan) b)) (sym (ne_eqb next.at n other)) airs)
