-- Document 01, "Controller verdicts": the plan, which plans are possible, what is expected back. Assumes nothing.
use Rattle.std.specs.Prelude.{ℕ, Bool, not, cond, ◌&&◌, ◌||◌, List, [], ◌∷◌, ◌++◌, eqb, leb, replicate, ⊤, Option, Some, None, Result, Ok, Err}
use Rattle.words.specs.Words.{on_clock, address_of, count_of, code_of, words_of, is_transmit, is_mode, is_broadcast}
use Rattle.words.specs.Modes.{listing_of, is_allowed}
use Rattle.words.specs.declared.refusals.Refusal.{Refusal}
use Rattle.words.specs.declared.refusals.Refusal.TheVariants.{OutOfRange, ImpossiblePlan}
use Rattle.words.specs.declared.modes.Listing.{Listing}
use Rattle.words.specs.declared.modes.ModeWord.{ModeWord}
use Rattle.words.specs.declared.modes.ModeWord.TheVariants.{Sent, Received}
use Rattle.records.specs.Records.{last_bus, refusal_of}
use Rattle.verdict.specs.declared.plans.Plan.{Plan}
use Rattle.verdict.specs.declared.plans.Expected.{Expected}
use Rattle.verdict.specs.declared.plans.Expected.TheVariants.{Status, Data}

-- ---- "impossible plan"

-- "One: not a broadcast transmit unless a mode command; a mode command as in the code table."
unfoldable pub is_single : ℕ → Bool
is_single word = cond (is_mode word) (is_allowed word) (not (is_transmit word && is_broadcast word))

-- "Two commands: a receive and a transmit as above, the receive perhaps to 31.": as the terminal's second command, after "a receive command that is no
-- mode command", "that transmits, to another address than ours and 31, no mode command, equal count field" (DECISIONS 7).
unfoldable pub is_pair : ℕ → ℕ → Bool
is_pair first second =
    not (is_transmit first)
    && not (is_mode first)
    && is_transmit second
    && not (is_mode second)
    && not (eqb (address_of second) (address_of first) || is_broadcast second)
    && eqb (count_of second) (count_of first)

-- "Plan: one or two command words": of one, the second is not read.
unfoldable pub is_possible : Plan → Bool
is_possible plan =
    cond (eqb plan.commands 1) (is_single plan.first.0) (eqb plan.commands 2 && is_pair plan.first.0 plan.second.0)

-- "Verdict: 7; 5 for bus, E, Q, Q below E"
unfoldable pub plan_checks : Plan → Result ⊤ Refusal
plan_checks plan =
    cond (is_possible plan)
    (cond (leb plan.bus last_bus && on_clock plan.last.0 && on_clock plan.until.0 && leb plan.last.0 plan.until.0) (Ok tt) (Err OutOfRange))
    (Err ImpossiblePlan)

abbrev pub plan_refusal : Plan → ℕ
plan_refusal plan = refusal_of (plan_checks plan)

-- ---- "Expected back"

-- "The last two aren't given for mode codes 2 and 18."
unfoldable pub is_unjudged : ℕ → Bool
is_unjudged word = is_mode word && (eqb (code_of word) 2 || eqb (code_of word) 18)

-- "a status": that of the command's address
abbrev pub status_for : ℕ → Expected
status_for word = Status (address_of word) (is_unjudged word)

-- the column "data word" of the code table: one where it is "sent"
abbrev pub words_sent : Option ModeWord → ℕ
words_sent None = 0
words_sent (Some Sent) = 1
words_sent (Some Received) = 0

abbrev pub sent_by : Option Listing → ℕ
sent_by None = 0
sent_by (Some listing) = words_sent listing.word

-- "for transmit, status and data": by the count, for a mode command by the code table
unfoldable pub sent_of : ℕ → ℕ
sent_of word = cond (is_mode word) (sent_by (listing_of word)) (cond (is_transmit word) (words_of word) 0)

-- a command's status, then its data words
abbrev pub part_of : ℕ → List Expected
part_of word = status_for word ∷ replicate (sent_of word) Data

-- "for broadcast nothing"
unfoldable pub back_of : ℕ → List Expected
back_of word = cond (is_broadcast word) [] (part_of word)

-- "for two commands the transmitter's status and data, then the receiver's status; for broadcast nothing, but the transmitter's part with two
-- commands"
unfoldable pub expected_of : Plan → List Expected
expected_of plan = cond (eqb plan.commands 1) (back_of plan.first.0) (part_of plan.second.0 ++ back_of plan.first.0)
