-- The bytes of a file that wait in a room (house): a window says from which place of the room up to which. Any two places are taken: where they are none of the
-- room's, those of its bytes wait that are between them. Assumes nothing.
use Rattle.std.specs.Prelude.{ℕ, ◌+◌, ◌-◌, min, List, ◌++◌, length, take, drop}
use Rattle.windows.specs.declared.windows.Window.{Window}
use Rattle.windows.specs.declared.windows.Filled.{Filled}

-- No byte waits.
abbrev pub empty_window : Window
empty_window = record { from = 0; to = 0 }

-- How many wait, in a room that has them.
abbrev pub count_of : Window → ℕ
count_of w = w.to - w.from

-- The bytes that wait.
abbrev pub waiting_in : Window → List ℕ → List ℕ
waiting_in w room = take (w.to - w.from) (drop w.from room)

-- ---- taking

-- After so many are taken, the first ones: no more than wait.
unfoldable pub after_taking : Window → ℕ → Window
after_taking w taken = record { from = w.from + min taken (count_of w); to = w.to }

-- ---- a room that the system writes into

-- All that wait are moved to the front of the room; else it is as before.
unfoldable pub front_window : Window → List ℕ → Window
front_window w room = record { from = 0; to = length (waiting_in w room) }

unfoldable pub front_room : Window → List ℕ → List ℕ
front_room w room = waiting_in w room ++ drop (length (waiting_in w room)) room

-- So many more have come right behind them: no more than the room has there.
unfoldable pub with_more : Window → List ℕ → ℕ → Window
with_more w room came = record { from = w.from; to = w.to + min came (length room - w.to) }

-- ---- a chunk

-- Of the bytes of a chunk as many are taken as the room has room for.
abbrev pub taken_of : Window → List ℕ → List ℕ → ℕ
taken_of w room chunk = min (length room - length (waiting_in w room)) (length chunk)

unfoldable pub filled_of : Window → List ℕ → List ℕ → Filled
filled_of w room chunk = record {
  window = record { from = 0; to = length (waiting_in w room) + taken_of w room chunk };
  taken = taken_of w room chunk;
}

-- They wait behind those that wait already, all at the front of the room; else it is as before.
unfoldable pub filled_room : Window → List ℕ → List ℕ → List ℕ
filled_room w room chunk =
    waiting_in w room ++ (take (taken_of w room chunk) chunk ++ drop (length (waiting_in w room) + taken_of w room chunk) room)
