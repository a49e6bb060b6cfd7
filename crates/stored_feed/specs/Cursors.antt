-- What the cursors of eight streams tell. Assumes nothing.
use Rattle.std.specs.Prelude.{ℕ, List, map}
use Rattle.stored_feed.specs.declared.state.Cursor.{Cursor}

-- of each stream the first record that was not yet passed over
abbrev pub next_of : List Cursor → List ℕ
next_of cursors = map (λ c. c.next) cursors

-- of each stream how many packets are left
abbrev pub left_of : List Cursor → List ℕ
left_of cursors = map (λ c. c.left) cursors
