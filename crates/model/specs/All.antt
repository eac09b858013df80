-- One name that unfolds every definition, for the theorems that compute with them.
use Rattle.model.specs.Common.{between, eq_z, count, all, any, keep, up_to, pad, joined, is_empty, is_some, ◌>>=◌, require, given}
use Rattle.model.specs.Refusal.{number, named, told}
use Rattle.model.specs.Batch.{blank_job, blank_delay, blank_window, job_of, ticks, mask, bit, delay_of, delays_of, rest_of, window_of, lined, earliest, latest, earliest_starts, latest_starts}
use Rattle.model.specs.Plan.{start, Keeps, Holds, KeepsDelays, too_close, Apart, KeepsStations, KeepsEnds, stay_in, stay, finish, latency}
use Rattle.model.specs.Clash.{meet, clashing, distances, clashes_of, clashes}
use Rattle.model.specs.Starts.{plus, raised, rounds, same, in_time, least_starts, heavier, entry, table}
use Rattle.model.specs.Search.{no_clash, side_of, turned, inequalities, starts_at, met, first_met, next_side, moved_on, turned_back, back_to, back, prunes, become_best, branch, visit, next, empty, is_turn, turns_of, place_of, search_of, fresh_place, fresh_search, node, nodes_on, nodes, node_limit}
use Rattle.model.specs.Line.{digit, byte, bytes_of, line_of, frame_bytes, read_line, at, wide, frame_is, digit_of, digits_of, line, two, four}
use Rattle.model.specs.Numbered.{rises, place_in}
use Rattle.model.specs.Window.{window_text, window_line, window_lines, window_place, window_in, windows_of, ends_ok, window_ok, job_rises, window}
use Rattle.model.specs.Rest.{rest_text, rested, rest_line, rest_lines, rest_in, rests_of, WithinRests, rest_ok, station_rises, rest}
use Rattle.model.specs.Format.{unsigned, header_line, masks_of, job_line, delay_line, jobs_of, further_of, further_text, batch_file, no_further, has_none, Edition, pad_job, batch_of, blanked}
use Rattle.model.specs.Open.{edition_ok, counts_ok, ticks_ok, jobs_ok, weight_ok, few_clashes, delays_met, signed, header, wides, job_in, job, delay_in, delay, due, read_one, read_all, read_kind, nothing_left, read_further, read_rest, read_file, open_file, blank_search, opened_as, opened}
use Rattle.model.specs.First.{KeepsStations01, meet01, clashing01, distances01, clashes_of01, clashes01, first01, least01, node01, nodes_on01, nodes01, few01, met01, header01, read_file01, open_file01, Begins}
use Rattle.model.specs.Sound.{sound_edition, sound_further, sound_batch, distinct, sound_turns, sound_path, sound_best, sound}
use Rattle.model.specs.Run.{run_refusal, counted, answer_of, starts_after, answered, ran_as, ran}
use Rattle.model.specs.Answers.{run_told, total_told, verdict_of, open_told, write_told, judge_told, best_told}
use Rattle.model.specs.Text.{plan_lines, plan_text, batch_text, refusal_line, fitting, written_as, written}
use Rattle.model.specs.Judge.{jobs_in, starts_in, claim_text, RightJobs, RightPlan, claim_head, claim_line, read_lines, read_claim, as17, jobs_right, keeps, keeps_ends, valid, plan_right, judge_text, judge, judged_as, judged}
use Rattle.model.specs.Program.{go_on, planned, printed, text_for}
use Rattle.model.specs.Calls.{call, after, refuses, granted}

unfoldable pub definitions : Unit {0}
unfolding between eq_z count all any keep up_to pad joined is_empty is_some ◌>>=◌ require given number named told blank_job blank_delay blank_window job_of ticks mask bit delay_of delays_of rest_of window_of lined earliest latest earliest_starts latest_starts start Keeps Holds KeepsDelays too_close Apart KeepsStations KeepsEnds stay_in stay finish latency meet clashing distances clashes_of clashes plus raised rounds same in_time least_starts heavier entry table no_clash side_of turned inequalities starts_at met first_met next_side moved_on turned_back back_to back prunes become_best branch visit next empty is_turn turns_of place_of search_of fresh_place fresh_search node nodes_on nodes node_limit digit byte bytes_of line_of frame_bytes read_line at wide frame_is digit_of digits_of line two four rises place_in window_text window_line window_lines window_place window_in windows_of ends_ok window_ok job_rises window rest_text rested rest_line rest_lines rest_in rests_of WithinRests rest_ok station_rises rest unsigned header_line masks_of job_line delay_line jobs_of further_of further_text batch_file no_further has_none Edition pad_job batch_of blanked edition_ok counts_ok ticks_ok jobs_ok weight_ok few_clashes delays_met signed header wides job_in job delay_in delay due read_one read_all read_kind nothing_left read_further read_rest read_file open_file blank_search opened_as opened KeepsStations01 meet01 clashing01 distances01 clashes_of01 clashes01 first01 least01 node01 nodes_on01 nodes01 few01 met01 header01 read_file01 open_file01 Begins sound_edition sound_further sound_batch distinct sound_turns sound_path sound_best sound run_refusal counted answer_of starts_after answered ran_as ran run_told total_told verdict_of open_told write_told judge_told best_told plan_lines plan_text batch_text refusal_line fitting written_as written jobs_in starts_in claim_text RightJobs RightPlan claim_head claim_line read_lines read_claim as17 jobs_right keeps keeps_ends valid plan_right judge_text judge judged_as judged go_on planned printed text_for call after refuses granted
definitions = tt
