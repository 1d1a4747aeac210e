-- What is proved of a window. Each is proved in proofs/ under the name at its side. Assumes nothing.
use Rattle.std.specs.Prelude.{ℕ, ◌-◌, ◌≤◌, ◌<◌, ◌≡◌, List, [], ◌++◌, length, take, drop}
use Rattle.windows.specs.Windows.{empty_window, count_of, waiting_in, after_taking, front_window, front_room, with_more, filled_of, filled_room}
use Rattle.windows.specs.declared.windows.Window.{Window}

-- In an empty window nothing waits: empty_waits
abbrev pub EmptyWaits : Type 0
EmptyWaits = (room : List ℕ) → waiting_in empty_window room ≡ []

-- Where the room has the window's places, so many wait as the window says: waiting_count
abbrev pub WaitingCount : Type 0
WaitingCount = (w : Window) (room : List ℕ) → w.to ≤ length room → length (waiting_in w room) ≡ count_of w

-- After so many are taken, those behind them wait: taken_waits
abbrev pub TakenWaits : Type 0
TakenWaits = (w : Window) (room : List ℕ) (taken : ℕ) → waiting_in (after_taking w taken) room ≡ drop taken (waiting_in w room)

-- They are so many fewer: taken_count
abbrev pub TakenCount : Type 0
TakenCount = (w : Window) (taken : ℕ) → count_of (after_taking w taken) ≡ count_of w - taken

-- And the window stays inside the room: taken_inside
abbrev pub TakenInside : Type 0
TakenInside = (w : Window) (room : List ℕ) (taken : ℕ) → w.to ≤ length room → (after_taking w taken).to ≤ length room

-- Whatever is written behind those that wait, they wait still: behind_waits
abbrev pub BehindWaits : Type 0
BehindWaits = (w : Window) (room room' : List ℕ) → take w.to room' ≡ take w.to room → waiting_in w room' ≡ waiting_in w room

-- A window of that room, which keeps its size, where these bytes wait.
pub record Waits (w : Window) (room : List ℕ) (size : ℕ) (bytes : List ℕ) : Type 0 where
  pub forward : w.from ≤ w.to
  pub inside : w.to ≤ length room
  pub same_size : length room ≡ size
  pub waiting : waiting_in w room ≡ bytes

-- At the front of the room the same bytes wait: front_waits
abbrev pub FrontWaits : Type 0
FrontWaits = (w : Window) (room : List ℕ) → Waits (front_window w room) (front_room w room) (length room) (waiting_in w room)

-- Then those wait that came behind them: more_waits
abbrev pub MoreWaits : Type 0
MoreWaits =
    (w : Window) (room : List ℕ) (came : ℕ) → w.from ≤ w.to → w.to ≤ length room
    → Waits (with_more w room came) room (length room) (waiting_in w room ++ take came (drop w.to room))

-- What waits after a chunk is what waited and then the bytes that were taken of it: filled_waits
abbrev pub FilledWaits : Type 0
FilledWaits =
    (w : Window) (room chunk : List ℕ)
    → Waits (filled_of w room chunk).window (filled_room w room chunk) (length room) (waiting_in w room ++ take (filled_of w room chunk).taken chunk)

-- No more are taken than the chunk has: filled_few
abbrev pub FilledFew : Type 0
FilledFew = (w : Window) (room chunk : List ℕ) → (filled_of w room chunk).taken ≤ length chunk

-- One at least is taken, where the chunk has one and the room is not full: filled_some
abbrev pub FilledSome : Type 0
FilledSome = (w : Window) (room chunk : List ℕ) → count_of w < length room → 0 < length chunk → 0 < (filled_of w room chunk).taken
