-- The headline theorems by name, each under the demand that it answers; the file named has the statement. Assumes nothing.

-- Demand 1: each call says what its table of refusals says (rules/specs/Calls), and the tables have document 01's numbers in its order, but for 7
pub use Rattle.theorems.proofs.Refusals.{setting_order_lem, initial_order_lem, step_order_lem, struck_order_lem, observe_order_lem, count_order_lem, draw_order_lem, rank_order_lem, image_order_lem, agent_order_lem, reward_order_lem, space_order_lem}
-- Demand 1 and request 14: 01's own table of the setting has 7, its row changes no answer, and 7 is never given
pub use Rattle.theorems.proofs.Refusals.{chain_order_lem}
pub use Rattle.rules.proofs.ChainLimit.{without_7, never_7}
-- Demand 1: a table refuses by the number of its first row that holds, and by no other
pub use Rattle.rules.proofs.Tables.{table_gives, table_refuses, table_first}
-- Demand 1: so a call is refused by k if and only if k is the number of its table's first row that holds
pub use Rattle.theorems.specs.Answers.{RefusedBy}
pub use Rattle.theorems.proofs.Refusals.{examine_refused, validate_refused, initial_refused, step_refused, struck_refused, observe_refused, count_refused, draw_refused, rank_refused, actor_refused, legal_refused, key_refused, truncation_refused, reward_refused, space_refused}
-- Demand 1: a refusal leaves every lent word, both buffers of a draw
pub use Rattle.theorems.proofs.Refusals.{initial_untouched, step_untouched, observe_untouched, draw_untouched}
-- Demand 1: an answer is a count of words, and the words after them keep their values
pub use Rattle.theorems.proofs.Refusals.{initial_after, step_after, observe_after, draw_after}
-- Demand 2: where no row holds, each call answers what its definition says
pub use Rattle.theorems.proofs.Definitions.{turn_is, check_is, examine_is, body_is, validate_is, initial_is, step_is, observe_is, count_is, draw_is, rank_is, actor_is, legal_is, key_is, truncation_is, reward_is, space_is, action_space_is}
-- Demand 2: document 01's twelve examples, one table; a second one for wrong definitions that neither they nor a law shuts out
pub use Rattle.rules.proofs.Examples.{examples_hold, more_hold}
-- Demand 2: the number by which `validate` refuses is the one of which the examples speak
pub use Rattle.theorems.proofs.Definitions.{validate_number}
-- Demand 2: what a program prints that takes the lines of its input one by one is the replay of that input
pub use Rattle.referee.proofs.Whole.{run_prints}
-- Demand 2: what the stream gives to print, part by part of what is read, is the replay of all that is read
pub use Rattle.stream.proofs.Printed.{stream_prints}
-- Demand 2: the cell ahead shows above the head, for each heading
pub use Rattle.rules.proofs.View.{ahead_above}
-- Demand 2: a corpse changes no one's fate; a casualty that lost has someone alive
pub use Rattle.rules.proofs.Step.{corpse_harmless, lost_to_someone}
-- Demand 2: what is due after a step that is not terminal are the apples that are gone
pub use Rattle.theorems.proofs.Eaten.{apples_gone}
-- Demand 2: an agent cannot see other snakes' headings, alive flags, food due or birth
pub use Rattle.rules.proofs.View.{same_view}
pub use Rattle.view.proofs.Theorems.{hidden_unseen}
-- Demand 2: truncation changes the survival flag alone
pub use Rattle.agent.proofs.Theorems.{only_survival}
-- Demand 3, of the definitions: free cells, count, one to one, rank, k! indices a set; what a draw changes, at birth too
pub use Rattle.rules.specs.Fair.{Fair}
pub use Rattle.rules.proofs.Fairness.{fair, settled, born, born_full}
-- Demand 3, of the calls: the count is P; a draw with room answers, and what it wrote; it draws k different free cells
pub use Rattle.rules.specs.Fair.{Countable, Drawable, DrawWrote, RanksAsOne}
pub use Rattle.rules.proofs.FairCalls.{count_answers, draw_comes, draw_wrote, list_fair}
-- Demand 3, of the calls' buffers: ranking what a draw wrote answers its index; drawing what a rank answered writes what was ranked; one to one
pub use Rattle.rules.proofs.FairCalls.{rank_back, list_forth, rank_forth, rank_answers, list_one}
-- Demand 3, of the calls' answers: each set of k free cells comes of exactly k! indices
pub use Rattle.rules.proofs.FairCalls.{sets_fair}
-- Demand 3, of the calls' answers: beside the food nothing changes but what is due, and at birth whether it is birth; at birth, and there without a free cell
pub use Rattle.rules.specs.Fair.{Changed}
pub use Rattle.rules.proofs.FairCalls.{draw_changes, birth_changes, full_changes}
-- Demand 3: a list of 20 cells holds whatever a draw gives
pub use Rattle.theorems.proofs.Longest.{longest_list}
-- Demand 3: a birth chain with p due ends after exactly min(p, n + 1) draws
pub use Rattle.rules.proofs.Births.{chain_count}
pub use Rattle.rules.proofs.FairCalls.{birth_countable, chain_draw, chain_ended, chain_not_before}
-- Document 02, wish 3: a living snake has lost exactly where another leads it; then the lead ended the match, and max_ticks did not
pub use Rattle.theorems.specs.Lead.{LostToLead}
pub use Rattle.theorems.proofs.Lead.{living_lost, lost_to_lead, lead_terminal, ticks_apart}
-- Document 02, wish 3: exactly the matches that the lead ends have another `p` line, 1 for the winner and 2 for the other; the dead stand where they stood
pub use Rattle.theorems.specs.Lead.{Reached, Ending, Placed}
pub use Rattle.theorems.proofs.Placings.{replay_ends, places_by_lead}
-- A match as a value: what the replay makes of a line is what a server's calls make of it, refusals, marked events, the end and the places included
pub use Rattle.theorems.specs.Server.{served_by, Served}
pub use Rattle.theorems.proofs.Server.{move_served_lem, over_served, line_served, places_served, replay_served, one_taken}
-- Document 02, wish 7: a hit is told exactly where the step's event has one of the two causes by a body, and nobody is hit from n on
pub use Rattle.theorems.proofs.Struck.{struck_is, struck_told, struck_nobody, struck_past}
-- Document 02, wish 7: the place at that position of that moved body is the victim's head, no position before it is, and it is at least 1; of several snakes the lowest-numbered
pub use Rattle.rules.specs.Struck.{stands_at, FirstBehind, HitsItself, HitsAnother}
pub use Rattle.theorems.proofs.Struck.{struck_itself, struck_another}
-- Document 02, wish 7: a number is found exactly where it is a member, so what asked for membership did not move
pub use Rattle.lists.proofs.Search.{found_member}
-- Tightness: two answers that meet one promise are equal, and so are the lent buffers
pub use Rattle.rules.proofs.Answers.{one_turn, one_check, one_examination, one_verdict, one_start, one_step, one_struck, one_view, one_count, one_draw, one_rank, one_actor, one_legal, one_key, one_truncation, one_reward, one_space, one_action_space, one_body}
-- Tightness: two parts that the body query may hand back have equal words at one address
pub use Rattle.theorems.proofs.Definitions.{one_part}
-- One image for each state
pub use Rattle.rules.proofs.Image.{state_back}
pub use Rattle.rules.proofs.Words.{image_back}
-- Calls chain: what the initial state, a step and a draw write is well-formed again
pub use Rattle.rules.proofs.InitialFacts.{initial_again}
pub use Rattle.rules.proofs.StepFacts.{step_again}
pub use Rattle.rules.proofs.Again.{draw_again}
pub use Rattle.rules.proofs.FairCalls.{written_again}
-- Request 1, a match book: the tables have wish 1's numbers in its order, and a call is refused by k if and only if k is the number of its table's first row that holds
pub use Rattle.theorems.proofs.Books.{find_order_lem, read_order_lem, write_order_lem, find_refused, read_refused, write_refused}
-- Request 1: a refusal leaves every lent word, the words after a book keep their values, and where no row holds the answer is the definition's
pub use Rattle.theorems.proofs.Books.{write_untouched, write_after, find_is, read_is, write_is}
-- Request 1: two answers that meet one promise are equal, and so is what is lent
pub use Rattle.contents.proofs.Answers.{one_find}
pub use Rattle.book.proofs.Answers.{one_write, one_page, one_read}
-- Request 1: reading what was written gives the same pages, each at its place; then of the calls' buffers
pub use Rattle.book.proofs.Theorems.{written_setting, written_pages, written_row, written_reads, written_words, write_gives, write_then_read}
-- Request 1: a book has one form only; two settings, page counts or rows never share a book
pub use Rattle.book.specs.Bindable.{Whole}
pub use Rattle.book.proofs.Theorems.{whole_form, whole_written, read_whole, one_book}
-- Request 1: a small book, word by word, and a setting whose fields have a number each
pub use Rattle.book.proofs.Sample.{low_first, lowest_first, all_zero, in_order, sample_contents, sample_book}
-- Request 1: at a place of a row at most one part is an image; an accepted setting's numbers fit their words
pub use Rattle.book.proofs.Binding.{one_image}
pub use Rattle.contents.proofs.Laying.{setting_wordy}
-- Request 1: a damaged page elsewhere changes nothing of the page that is read; a page is found by the contents alone
pub use Rattle.book.proofs.Separate.{page_alone}
pub use Rattle.book.proofs.Theorems.{find_alone, find_then_read, find_refuses, find_reads}
-- Request 4, what is wrong with an image: no fault exactly where it is well-formed; its first fault's word is below 65,536
pub use Rattle.rules.proofs.Faults.{no_fault}
pub use Rattle.flat.proofs.Words.{fault_word}
-- Request 4: the record, the start and the body that are named are the first that show the fault
pub use Rattle.theorems.proofs.Shown.{FirstOut, range_shown, start_shown, twice_shown}
-- Request 14, the outcome of a unit number: its table has wish 14's numbers in its order, exactly those are given, and where no row holds the answer is the definition's
pub use Rattle.theorems.proofs.Units.{outcome_order_lem, outcome_refused, outcome_is}
-- Request 14: two answers that meet its promise are equal
pub use Rattle.unit.proofs.Answers.{one_outcome}
-- Request 14: for counts 1 to 2^53 a legal index, the whole part of the exact product or one more, and the count loses nothing; a draw of it is never refused by 27
pub use Rattle.unit.specs.Chosen.{Choosable, Chosen, NeverAbove}
pub use Rattle.unit.proofs.Theorems.{outcome_chosen, chosen_draws}
-- Request 14: a product that rounds up to a whole number
pub use Rattle.unit.proofs.Theorems.{rounds_up}
