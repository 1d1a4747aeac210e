-- The bench cards, by computation. Assumes nothing.
use lib.Count.{ones_in}
use Rattle.words.specs.Words.{is_odd, parity_of, words_of, is_mode, is_spaced, spacing_of, plus_of, has_flag, with_flag, is_valid, awaited_of}
use Rattle.words.specs.Modes.{rows, found, listing_of, allows, is_allowed}
use Rattle.words.specs.Masks.{mask_allows}
use Rattle.words.specs.Cards.{word_cards}
use Rattle.words.specs.Cards as words
use Rattle.terminal.specs.Commands.{is_own, is_exempt, mask_of, is_held_illegal, is_legal}
use Rattle.terminal.specs.Messages.{is_on, awaits_data, is_whole, is_due, is_late, awaits_first, is_overdue, is_sent, is_sending, is_next_data, is_second, is_status_from}
use Rattle.terminal.specs.Settling.{other_bus, settled_status, mode_words, legal_reply, reply_of, stores_data, stored_of, is_withheld, answer_of, sending_of}
use Rattle.terminal.specs.Effects.{effect_of, held_after}
use Rattle.terminal.specs.Rules.{rule1_answer, rule1_receive, settled_of, rule1, faulty_of, time_fault, rule2, noted_status, noted_command, first_phase, begun_of, rule4, cuts_sending, staged_of, moved_of, fault_in, next_data, next_word, rule5, rules3to6}
use Rattle.terminal.specs.Events.{event_refusal, passed_of, happens_of, event_of, event_receive}
use Rattle.terminal.specs.Cards.{mark, heard, command, data_word, bad_word, same_words, is_answer, zeros, steps, bench_terminal, card_holds, all_hold, on_words, begun, cards}
use Rattle.terminal.specs.Theorems.{CardsHold}

-- every definition that the course of a message runs through
unfoldable pub whole : Unit {0}
unfolding ones_in is_odd parity_of words_of is_mode is_spaced spacing_of plus_of has_flag with_flag is_valid rows found listing_of allows is_allowed mask_allows is_own is_exempt mask_of is_held_illegal is_legal awaited_of is_on awaits_data is_whole is_due is_late awaits_first is_overdue is_sent is_sending is_next_data is_second is_status_from settled_status mode_words legal_reply reply_of stores_data stored_of other_bus is_withheld answer_of sending_of effect_of held_after rule1_answer rule1_receive settled_of rule1 faulty_of time_fault rule2 noted_status noted_command first_phase begun_of rule4 cuts_sending staged_of moved_of fault_in next_data next_word rule5 rules3to6 event_refusal passed_of happens_of event_of event_receive mark heard command data_word bad_word zeros
whole = tt

pub cards_hold : CardsHold
unfolding whole word_cards words.holds same_words is_answer steps bench_terminal card_holds all_hold on_words begun cards
cards_hold = tt
