-- Document 01, "Bench cards": "Address 5, all legal, fresh". One table with one test: the starred cards, those on words among them, and the
-- rest. Assumes nothing.
use Rattle.std.specs.Prelude.{ℕ, ◌+◌, ◌-◌, ◌^◌, Bool, true, ◌&&◌, List, [], ◌∷◌, ◌++◌, false, eqb, length, get_or, replicate, Option, Some, None, is_none}
use Rattle.words.specs.Words.{parity_of, command_sync, data_sync}
use Rattle.words.specs.Cards.{word_cards}
use Rattle.words.specs.Cards as words
use Rattle.terminal.specs.States.{own_of, setup_of, fresh_of}
use Rattle.terminal.specs.Events.{event_of, event_receive}
use Rattle.terminal.specs.declared.states.Terminal.{Terminal as State}
use Rattle.terminal.specs.declared.answers.Answer.{Answer}
use Rattle.terminal.specs.declared.events.Event.{Event}
use Rattle.terminal.specs.declared.events.Event.TheVariants.{Mark, Word}

-- A step of a card: an event that carries no answer; one that carries an answer (bus, due time, status, data words); what the stored status
-- is then; what a place of the receive table holds then.
pub data Step : Type 0 where
  quiet : Event → Step
  answers : Event → ℕ → ℕ → ℕ → List ℕ → Step
  status : ℕ → Step
  holds : ℕ → ℕ → Step

-- A card on words, or a course of steps.
pub data Card : Type 0 where
  word : words.Card → Card
  course : List Step → Card

-- ---- the events of cards

unfoldable pub mark : ℕ → Event
mark t = Mark (record { 0 = t })

unfoldable pub heard : ℕ → ℕ → ℕ → ℕ → ℕ → Event
heard bus t sync w parity = Word (record { time = record { 0 = t }; bus = bus; sync = sync; faults = 0; word = w; parity = parity })

unfoldable pub command : ℕ → ℕ → ℕ → Event
command bus t w = heard bus t command_sync w (parity_of w)

unfoldable pub data_word : ℕ → ℕ → ℕ → Event
data_word bus t w = heard bus t data_sync w (parity_of w)

unfoldable pub bad_word : ℕ → ℕ → ℕ → Event
bad_word bus t w = heard bus t data_sync w (1 - parity_of w)

-- ---- the test

unfoldable pub same_words : List ℕ → List ℕ → ℕ → Bool
same_words words [] place = true
same_words words (w ∷ rest) place = eqb (get_or words place 0) w && same_words words rest (place + 1)

unfoldable pub is_answer : Option Answer → ℕ → ℕ → ℕ → List ℕ → Bool
is_answer None bus due st ws = false
is_answer (Some a) bus due st ws =
    eqb a.bus bus && eqb a.due.0 due && eqb a.status.0 st && eqb a.count (length ws) && same_words a.words ws 0

-- the transmit table, and the receive table at first
unfoldable pub zeros : List ℕ
zeros = replicate 1024 0

unfoldable pub steps : State → List ℕ → List Step → Bool
steps s receive [] = true
steps s receive (quiet e ∷ rest) =
    is_none (event_of s e receive zeros).answer && is_none (event_of s e receive zeros).refusal
    && steps (event_of s e receive zeros).terminal (event_receive s e receive zeros) rest
steps s receive (answers e bus due st ws ∷ rest) =
    is_answer (event_of s e receive zeros).answer bus due st ws && steps (event_of s e receive zeros).terminal (event_receive s e receive zeros) rest
steps s receive (status st ∷ rest) = eqb s.held.status.0 st && steps s receive rest
steps s receive (holds place w ∷ rest) = eqb (get_or receive place 0) w && steps s receive rest

-- "Address 5, all legal, fresh"
unfoldable pub bench_terminal : State
bench_terminal = fresh_of (setup_of (own_of 5) (replicate 32 (2 ^ 32 - 1)) (replicate 32 (2 ^ 32 - 1)))

unfoldable pub card_holds : Card → Bool
card_holds (word c) = words.holds c
card_holds (course ss) = steps bench_terminal zeros ss

unfoldable pub all_hold : List Card → Bool
all_hold [] = true
all_hold (c ∷ cs) = card_holds c && all_hold cs

-- ---- the table

unfoldable pub on_words : List words.Card → List Card
on_words [] = []
on_words (c ∷ cs) = word c ∷ on_words cs

-- 2842 on bus A at 1000 and its first data word at 1200
unfoldable pub begun : List Step
begun = quiet (command 0 1000 0x2842) ∷ quiet (data_word 0 1200 0x0007) ∷ []

unfoldable pub cards : List Card
cards =
    on_words word_cards
    -- "* 2842 at 1000, data at 1200, 1400: nothing at 1659; * at 1660 status 2800, time 1660"
    ++ course
    (begun
    ++ (quiet (data_word 0 1400 0x0009)
    ∷ quiet (mark 1659)
    ∷ answers (mark 1660) 0 1660 0x2800 []
    ∷ holds 64 0x0007
    ∷ holds 65 0x0009
    ∷ []))
    -- "* second data at 1405 is good"
    ∷ course (begun ++ (quiet (data_word 0 1405 0x0009) ∷ answers (mark 1665) 0 1665 0x2800 [] ∷ holds 65 0x0009 ∷ []))
    -- "* at 1406 a fault"
    ∷ course (begun ++ (quiet (data_word 0 1406 0x0009) ∷ quiet (mark 2000) ∷ status 0x2C00 ∷ holds 64 0 ∷ []))
    -- "at 1394 a fault"
    ∷ course (begun ++ (quiet (data_word 0 1394 0x0009) ∷ quiet (mark 2000) ∷ status 0x2C00 ∷ holds 64 0 ∷ []))
    -- "* 2C42 alone at 1000: due 1260"
    ∷ course (quiet (command 0 1000 0x2C42) ∷ quiet (mark 1259) ∷ answers (mark 1260) 0 1260 0x2800 (0 ∷ 0 ∷ []) ∷ [])
    -- "2842 at 1000, data of bad parity at 1200: no answer; * 2C02 at 2000 answers 2C00, due 2260", "* then 2C12: data word 2C02"
    ∷ course
    (quiet (command 0 1000 0x2842)
    ∷ quiet (bad_word 0 1200 0x0007)
    ∷ quiet (mark 1999)
    ∷ quiet (command 0 2000 0x2C02)
    ∷ answers (mark 2260) 0 2260 0x2C00 []
    ∷ quiet (command 0 3000 0x2C12)
    ∷ answers (mark 3260) 0 3260 0x2C00 (0x2C02 ∷ [])
    ∷ [])
    -- "* 2842 on A with its data at 1200 and 1400, 2C02 on B at 1500: only B answers, 2800 at 1760, nothing stored"
    ∷ course
    (begun
    ++ (quiet (data_word 0 1400 0x0009)
    ∷ quiet (command 1 1500 0x2C02)
    ∷ quiet (mark 1759)
    ∷ answers (mark 1760) 1 1760 0x2800 []
    ∷ quiet (mark 9000)
    ∷ holds 64 0
    ∷ holds 65 0
    ∷ []))
    -- "FC02: illegal, no answer, status 2C10"
    ∷ course (quiet (command 0 1000 0xFC02) ∷ quiet (mark 2000) ∷ status 0x2C10 ∷ [])
    ∷ []
