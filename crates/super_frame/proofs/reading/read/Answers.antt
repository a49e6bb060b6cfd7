use Rattle.std.proofs.Common.{◌≡◌, ℕ, ◌*◌, ◌/◌, ◌<◌, List, length, sym, ap, ◌∙◌, subst, arith}
use Rattle.std.proofs.lemmas.Nat.{div-mul-add}
use Rattle.frame_layout.specs.Layout.{super_size}
use Rattle.super_frame.specs.Reads.{words_size, Taken, OffWords, TmccRead, Read}
use Rattle.super_frame.proofs.Backs.{read_back}
use Rattle.super_frame.proofs.Exacts.{read_whole}
use Rattle.super_frame.proofs.Readings.{read_from}
use Rattle.super_frame.proofs.reading.read.Goals as goal

pub returns : goal.returns
returns c =
    let slots = c.args.slots in
    let stream = c.args.stream.now in
    let tmcc = c.read_tmcc.new.tmcc in
    let taken = c.take_words.new.words in
    let words = c.take_sequence_off.new.words in
    let long : length stream ≡ super_size slots =
    ap length (sym c.in_ok-frames.ensures.1) ∙ (c.in_ok-frames.frames.size ∙ ap super_size c.in_ok-frames.ensures.0) in
    let room : length taken ≡ words_size slots = omega arith in
    let count : length taken / 204 ≡ 8 * slots = ap (λ (n : ℕ). n / 204) (room ∙ omega arith) ∙ div-mul-add (8 * slots) 204 0 (omega arith) in
    let off : OffWords (8 * slots) taken words = subst (λ (n : ℕ). OffWords n taken words) count c.take_sequence_off.ensures in
    let here : (n : ℕ) (xs : List ℕ) → c.in_ok-frames.frames.slots ≡ n → c.in_ok-frames.frames.elements.now ≡ xs →
    ((slot : ℕ) → slot < n → Taken 0 0x47 n xs taken slot) × TmccRead n xs 8 tmcc =
    λ n xs en exs.
    subst (λ (m : ℕ). ((slot : ℕ) → slot < m → Taken 0 0x47 m xs taken slot) × TmccRead m xs 8 tmcc) en
    (subst (λ (ys : List ℕ). ((slot : ℕ) → slot < c.in_ok-frames.frames.slots → Taken 0 0x47 c.in_ok-frames.frames.slots ys taken slot) × TmccRead c.in_ok-frames.frames.slots ys 8 tmcc) exs
    (c.take_words.ensures, c.read_tmcc.ensures)) in
    let got = here slots stream c.in_ok-frames.ensures.0 c.in_ok-frames.ensures.1 in
    let is : Read slots stream tmcc words = read_from slots stream tmcc taken words got.0 off got.1 in
    record {
      read = ((long, omega arith), is);
      back = λ word sent super. read_back slots stream tmcc words word sent super is (omega arith) c.read_tmcc.array_long;
      whole = λ exact. read_whole slots stream tmcc words is long (omega arith) exact;
    }
