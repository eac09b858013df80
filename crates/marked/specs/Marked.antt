-- Marked batches: C1 to C10 of 01 and rows of our own that rule out misreadings which those leave standing. One table, and the theorem that
-- every row is what the definitions give; then plan texts beside files (02, Q-1), what the program prints for C3, and that the bound on N is reached.
use Rattle.std.specs.Prelude.{ℕ, ◌≡◌, refl, Bool, true, ◌&&◌, List, [], ◌∷◌, ◌++◌, map, length, drop, eqb, if◌then◌else◌}
use Prim.Native.Char.{code}
use Prim.Native.String.{String, [] as end, ◌∷◌ as ◌then◌}
use Rattle.model.specs.declared.Batch.{Batch}
use Rattle.model.specs.declared.Search.{Search}
use Rattle.model.specs.Common.{Outcome, refuse, accept, ◌>>=◌}
use Rattle.model.specs.Search.{nodes, fresh_search, Ends, node_limit}
use Rattle.model.specs.Open.{opened}
use Rattle.model.specs.Run.{ran}
use Rattle.model.specs.Answers.{Verdict, spent, plan, no_plan, run_told, open_told, judge_told}
use Rattle.model.specs.Judge.{judged}
use Rattle.model.specs.Program.{text_for}
use Rattle.model.specs.All.{definitions}

-- ---- files as 01 prints them: each blank stands for 0A, and the file ends in 0A

unfoldable pub characters : String → List ℕ
characters end = []
characters (c then cs) = (if eqb (code c) 32 then 10 else code c) ∷ characters cs

unfoldable pub file_of : String → List ℕ
file_of s = characters s ++ (10 ∷ [])

-- ---- the table

-- what a run shows: its answer in 01's words, and the starts list after it
pub record Run : Type 0 where
  pub answer : Outcome Verdict
  pub list : List ℕ

-- what a batch that opens shows: each run in turn, and that N is n
pub record Shown : Type 0 where
  pub runs : List Run
  pub ends : Bool

pub record Row : Type 0 where
  pub file : List ℕ
  pub budgets : List ℕ
  pub n : ℕ
  pub stated : Outcome Shown

unfoldable pub refused_with : ℕ → List ℕ → Row
refused_with k file = record { file = file; budgets = []; n = 0; stated = refuse k }

unfoldable pub opens : String → List ℕ → ℕ → List Run → Row
opens file budgets n runs = record { file = file_of file; budgets = budgets; n = n; stated = accept (record { runs = runs; ends = true }) }

-- the starts list of every run: more places than any row has jobs, no two alike, so that what is written shows, and what is left
unfoldable pub untouched : List ℕ
untouched = 901 ∷ 902 ∷ 903 ∷ 904 ∷ 905 ∷ 906 ∷ []

-- a plan has its starts in the first places; any other answer, and a refusal, leaves the list
unfoldable pub plan_at : ℕ → ℕ → List ℕ → Run
plan_at latency total starts = record { answer = accept (plan latency total); list = starts ++ drop (length starts) untouched }

unfoldable pub spent_at : ℕ → Run
spent_at total = record { answer = accept (spent total); list = untouched }

unfoldable pub no_plan_at : ℕ → Run
no_plan_at total = record { answer = accept (no_plan total); list = untouched }

unfoldable pub refused_run : ℕ → Run
refused_run k = record { answer = refuse k; list = untouched }

unfoldable pub c3 : String
c3 = "A0010200 A1010001 A103000100020002"

-- one run with more budget than any row needs
unfoldable pub once : List ℕ
once = 100 ∷ []

unfoldable pub rows : List Row
rows =
    -- C1 to C8
    refused_with 7 []
    ∷ opens "A0010100 A1010001" once 1 (plan_at 1 1 (0 ∷ []) ∷ [])
    ∷ opens c3 once 3 (plan_at 3 3 (1 ∷ 0 ∷ []) ∷ [])
    ∷ opens "A0010200 A10200010002 A10200010002" once 3 (plan_at 3 3 (0 ∷ 1 ∷ []) ∷ [])
    ∷ opens "A0010202 A1010001 A1010001 A200010000 A201000000" once 3 (no_plan_at 3 ∷ [])
    ∷ refused_with 10 (file_of "A0010202 A1010001 A1010002 A200010001 A201000000")
    ∷ opens "A0010202 A1010001 A1010002 A200010001 A20100FFFF" once 1 (plan_at 2 1 (0 ∷ 1 ∷ []) ∷ [])
    -- (02, Q-3: a job finishes with its last non-empty tick)
    ∷ opens "A0010100 A10200010000" once 1 (plan_at 1 1 (0 ∷ []) ∷ [])
    -- C9: C3 in three runs
    ∷ opens c3 (0 ∷ 2 ∷ 1 ∷ []) 3 (spent_at 0 ∷ spent_at 2 ∷ plan_at 3 3 (1 ∷ 0 ∷ []) ∷ [])
    -- C10: both ends of w, and one past each
    ∷ opens "A0010201 A1010001 A1010002 A2000103E8" once 1 (plan_at 1001 1 (0 ∷ 1000 ∷ []) ∷ [])
    ∷ opens "A0010201 A1010001 A1010002 A20001FC18" once 1 (plan_at 1 1 (0 ∷ 0 ∷ []) ∷ [])
    ∷ refused_with 6 (file_of "A0010201 A1010001 A1010002 A2000103E9")
    ∷ refused_with 6 (file_of "A0010201 A1010001 A1010002 A20001FC17")
    -- our own: a station shared in later ticks only
    ∷ opens "A0010200 A10200000001 A10200000001" once 3 (plan_at 3 3 (0 ∷ 1 ∷ []) ∷ [])
    -- station 15
    ∷ opens "A0010200 A1018000 A1018000" once 3 (plan_at 2 3 (0 ∷ 1 ∷ []) ∷ [])
    -- a weight below 0 that raises a start
    ∷ opens "A0010302 A1010001 A1010002 A1010004 A200010005 A20102FFFE" once 1 (plan_at 6 1 (0 ∷ 5 ∷ 3 ∷ []) ∷ [])
    -- four jobs: the order in which clashes are branched on
    ∷ opens "A0010400 A10200010004 A1010002 A1010002 A10200010003" once 5 (plan_at 3 5 (0 ∷ 0 ∷ 1 ∷ 1 ∷ []) ∷ [])
    -- the same with job 0's last tick empty: side 1 of the first turn then has a latency below best's, and is branched on
    ∷ opens "A0010400 A10200010000 A1010002 A1010002 A10200010003" once 7 (plan_at 3 7 (0 ∷ 0 ∷ 1 ∷ 1 ∷ []) ∷ [])
    -- empty ticks at a table's end do not count, so that the padded job may go second; those before a non-empty one do
    ∷ opens "A0010200 A103000100000000 A10200010002" once 3 (plan_at 2 3 (1 ∷ 0 ∷ []) ∷ [])
    ∷ opens "A0010100 A10500000001000000010000" once 1 (plan_at 4 1 (0 ∷ []) ∷ [])
    -- a job that holds no station finishes when it starts, and with such jobs alone the latency is 0 and a plan is found
    ∷ opens "A0010201 A1010001 A10200000000 A200010005" once 1 (plan_at 5 1 (0 ∷ 5 ∷ []) ∷ [])
    ∷ opens "A0010200 A1010000 A10200000000" (1 ∷ 0 ∷ []) 1 (plan_at 0 1 (0 ∷ 0 ∷ []) ∷ plan_at 0 1 (0 ∷ 0 ∷ []) ∷ [])
    -- runs on an ended search give its result again
    ∷ opens c3 (3 ∷ 0 ∷ 1000000 ∷ []) 3 (plan_at 3 3 (1 ∷ 0 ∷ []) ∷ plan_at 3 3 (1 ∷ 0 ∷ []) ∷ plan_at 3 3 (1 ∷ 0 ∷ []) ∷ [])
    -- a refused run changes nothing
    ∷ opens c3 (2 ∷ 1000001 ∷ 1 ∷ []) 3 (spent_at 2 ∷ refused_run 11 ∷ plan_at 3 3 (1 ∷ 0 ∷ []) ∷ [])
    -- edition 02 (02, Q-4): without further lines, and with one that has the ends of none; delays go on from an earliest start, weights below 0 too;
    -- a line is its own job's alone
    ∷ opens "A0020200 A1010001 A103000100020002" once 3 (plan_at 3 3 (1 ∷ 0 ∷ []) ∷ [])
    ∷ opens "A0020100 A1010001 A3000000FFFF" once 1 (plan_at 1 1 (0 ∷ []) ∷ [])
    ∷ opens "A0020201 A1010001 A1010002 A200010001 A3000005FFFF" once 1 (plan_at 7 1 (5 ∷ 6 ∷ []) ∷ [])
    ∷ opens "A0020201 A1010001 A1010002 A20001FFFE A3000005FFFF" once 1 (plan_at 6 1 (5 ∷ 3 ∷ []) ∷ [])
    ∷ opens "A0020200 A1010001 A1010002 A30100050009" once 1 (plan_at 6 1 (0 ∷ 5 ∷ []) ∷ [])
    -- C3 with job 0 not after 0: the shorter plan is not valid; C4 with job 0 not before 1, and with both not after 0: no plan, and not 10
    ∷ opens "A0020200 A1010001 A103000100020002 A30000000000" once 3 (plan_at 4 3 (0 ∷ 1 ∷ []) ∷ [])
    ∷ opens "A0020200 A10200010002 A10200010002 A3000001FFFF" once 1 (plan_at 3 1 (1 ∷ 0 ∷ []) ∷ [])
    ∷ opens "A0020200 A10200010002 A10200010002 A30000000000 A30100000000" once 3 (no_plan_at 3 ∷ [])
    -- 10: delays and ends together, neither alone; one tick more will do
    ∷ refused_with 10 (file_of "A0020201 A1010001 A1010002 A200010001 A30100000000")
    ∷ refused_with 10 (file_of "A0020201 A1010001 A1010002 A200010005 A30000030003 A30100000007")
    ∷ opens "A0020201 A1010001 A1010002 A200010005 A30000030003 A30100000008" once 1 (plan_at 9 1 (3 ∷ 8 ∷ []) ∷ [])
    -- earliest 20,000, and starts past 23,000 that a sound record may have: the second run is not refused
    ∷ opens "A0020504 A1010001 A1010002 A1010004 A1010008 A1010010 A2000103E8 A2010203E8 A2020303E8 A2030403E8 A3004E204E20 A304000061A8" (1 ∷ 0 ∷ []) 1
    (plan_at 24001 1 (20000 ∷ 21000 ∷ 22000 ∷ 23000 ∷ 24000 ∷ []) ∷ plan_at 24001 1 (20000 ∷ 21000 ∷ 22000 ∷ 23000 ∷ 24000 ∷ []) ∷ [])
    -- 20: earliest 20,001, above latest, job n, a job twice, jobs falling
    ∷ refused_with 20 (file_of "A0020100 A1010001 A3004E21FFFF")
    ∷ refused_with 20 (file_of "A0020100 A1010001 A30000010000")
    ∷ refused_with 20 (file_of "A0020100 A1010001 A3010000FFFF")
    ∷ refused_with 20 (file_of "A0020200 A1010001 A1010002 A3000000FFFF A3000000FFFF")
    ∷ refused_with 20 (file_of "A0020200 A1010001 A1010002 A3010000FFFF A3000000FFFF")
    -- 2 before 20, a byte too many, an unknown kind, 1 before 2, a delay too many, before and after a window, a kind too early, 7, an empty line, lower
    -- case, no 0A
    ∷ refused_with 2 (file_of "A0020100 A1010001 A301000000")
    ∷ refused_with 2 (file_of "A0020100 A1010001 A30000000000FF")
    ∷ refused_with 2 (file_of "A0020100 A1010001 A70001")
    ∷ refused_with 1 (file_of "A0020100 A1010001 A7000")
    ∷ refused_with 2 (file_of "A0020201 A1010001 A1010002 A200010000 A200010000")
    ∷ refused_with 2 (file_of "A0020201 A1010001 A1010002 A200010000 A3000000FFFF A200010000")
    ∷ refused_with 2 (file_of "A0020101 A1010001 A3000000FFFF")
    ∷ refused_with 7 (file_of "A0020101 A1010001")
    ∷ refused_with 1 (file_of "A0020100 A1010001 ")
    ∷ refused_with 1 (file_of "A0020100 A1010001 A3000000FFFf")
    ∷ refused_with 1 (characters "A0020100 A1010001 A3000000FFFF")
    -- line by line; 8 in edition 01; 20 before 10
    ∷ refused_with 20 (file_of "A0020100 A1010001 A3010000FFFF A3000")
    ∷ refused_with 8 (file_of "A0010100 A1010001 A3000000FFFF")
    ∷ refused_with 20 (file_of "A0020202 A1010001 A1010002 A200010001 A201000000 A3020000FFFF")
    -- rest (02, Q-5): ticks r apart are too close, and r + 1 are not, with both signs of the distance; a station's own rest, and no other's, station 15 too; the ticks of one
    -- job may be closer; two stations with rests of their own
    ∷ opens "A0020200 A1010001 A1010001 A40002" once 11 (plan_at 4 11 (0 ∷ 3 ∷ []) ∷ [])
    ∷ opens "A0020200 A1010001 A1010001 A30100000002 A40002" once 11 (plan_at 4 11 (3 ∷ 0 ∷ []) ∷ [])
    ∷ opens "A0020200 A1010001 A1010001 A40102" once 3 (plan_at 2 3 (0 ∷ 1 ∷ []) ∷ [])
    ∷ opens "A0020200 A1018000 A1018000 A40F01" once 7 (plan_at 3 7 (0 ∷ 2 ∷ []) ∷ [])
    ∷ opens "A0020100 A103000100000001 A40007" once 1 (plan_at 3 1 (0 ∷ []) ∷ [])
    ∷ opens "A0020300 A1010001 A1010002 A1010003 A40001 A40102" once 19 (plan_at 4 19 (0 ∷ 0 ∷ 3 ∷ []) ∷ [])
    -- between held ticks, not starts; with windows one tick too narrow, and wide enough
    ∷ opens "A0020200 A10200010002 A10200020001 A40001" once 7 (plan_at 4 7 (0 ∷ 2 ∷ []) ∷ [])
    ∷ opens "A0020200 A1010001 A1010001 A30000000001 A30100000001 A40001" once 7 (no_plan_at 7 ∷ [])
    ∷ opens "A0020200 A1010001 A1010001 A30000000002 A30100000002 A40001" once 7 (plan_at 3 7 (0 ∷ 2 ∷ []) ∷ [])
    -- 21: station 16, rest 0 and 8, a station twice, stations falling; before what is wrong in a later line, and before 10
    ∷ refused_with 21 (file_of "A0020100 A1010001 A41001")
    ∷ refused_with 21 (file_of "A0020100 A1010001 A40000")
    ∷ refused_with 21 (file_of "A0020100 A1010001 A40008")
    ∷ refused_with 21 (file_of "A0020100 A1010001 A40001 A40001")
    ∷ refused_with 21 (file_of "A0020100 A1010001 A40101 A40001")
    ∷ refused_with 21 (file_of "A0020100 A1010001 A40008 A3000")
    ∷ refused_with 21 (file_of "A0020202 A1010001 A1010002 A200010001 A201000000 A40008")
    -- 2 before 21, a byte too many, a kind that falls, one that is unknown; 1 before 2; 20 of the line before; 8 in edition 01
    ∷ refused_with 2 (file_of "A0020100 A1010001 A410")
    ∷ refused_with 2 (file_of "A0020100 A1010001 A4000101")
    ∷ refused_with 2 (file_of "A0020100 A1010001 A40001 A3000000FFFF")
    ∷ refused_with 2 (file_of "A0020100 A1010001 A40001 A70002")
    ∷ refused_with 1 (file_of "A0020100 A1010001 A4000")
    ∷ refused_with 20 (file_of "A0020100 A1010001 A3010000FFFF A40008")
    ∷ refused_with 8 (file_of "A0010100 A1010001 A40001")
    -- 02's example of 3, edition 00, and edition 02 passes 3
    ∷ refused_with 3 (file_of "A0030100")
    ∷ refused_with 3 (file_of "A0000100")
    ∷ refused_with 4 (file_of "A0020000")
    -- the refusals' numbers and order: 1 before 2, 2 before 3, 3 before 4, 2 before 4, 5 before 6, 8 before 10
    ∷ refused_with 1 (file_of "A00100g")
    ∷ refused_with 2 (file_of "A00301")
    ∷ refused_with 3 (file_of "A0030000")
    ∷ refused_with 2 (file_of "A0010100 A1110001")
    ∷ refused_with 4 (file_of "A0010100 A100")
    ∷ refused_with 5 (file_of "A0010201 A1010001 A1010001 A2000003E9")
    ∷ refused_with 8 (file_of "A0010202 A1010001 A1010002 A200010001 A201000000 ")
    ∷ []

-- ---- what the definitions give

unfoldable pub runs : Search → List ℕ → List Run
runs s [] = []
runs s (k ∷ ks) = let (r, list) = ran s k untouched in record { answer = run_told r.answer; list = list } ∷ runs r.search ks

unfoldable pub ends_at : Batch → ℕ → Bool
ends_at b n = let s = nodes n (fresh_search b) in s.ended && eqb s.total n

unfoldable pub shown : Row → Search → Shown
shown r s = record { runs = runs s r.budgets; ends = ends_at s.batch r.n }

unfoldable pub gives : Row → Outcome Shown
gives r = let o = opened r.file in open_told o.answer >>= λ u. accept (shown r o.search)

pub marked : map gives rows ≡ map (λ r. r.stated) rows
unfolding definitions rows refused_with opens untouched plan_at spent_at no_plan_at refused_run c3 once gives shown runs ends_at characters file_of
marked = refl

-- ---- plan texts beside files (02, Q-1)

pub record PlanRow : Type 0 where
  pub file : List ℕ
  pub text : List ℕ
  pub stated : Outcome (Unit {0})

unfoldable pub judging : String → List ℕ → Outcome (Unit {0}) → PlanRow
judging file text stated = record { file = file_of file; text = text; stated = stated }

unfoldable pub plan_rows : List PlanRow
plan_rows =
    -- C3's plan as it is printed; another total; a longer plan
    judging c3 (file_of "B00102000300000003 B1000001 B1010000") (accept tt)
    ∷ judging c3 (file_of "B001020003FFFFFFFF B1000001 B1010000") (accept tt)
    ∷ judging c3 (file_of "B00102001600000000 B1000000 B1010013") (accept tt)
    -- the file's own refusals come first
    ∷ judging "A0010202 A1010001 A1010002 A200010001 A201000000" [] (refuse 10)
    -- 17: nothing, no plan, edition 02, an empty line, no 0A at the end, two B0 lines; and before 18, in the last line too
    ∷ judging c3 [] (refuse 17)
    ∷ judging c3 (file_of "B200000003") (refuse 17)
    ∷ judging c3 (file_of "B00202000300000003 B1000001 B1010000") (refuse 17)
    ∷ judging c3 (file_of "B00102000300000003 B1000001 B1010000 ") (refuse 17)
    ∷ judging c3 (characters "B00102000300000003 B1000001 B1010000") (refuse 17)
    ∷ judging c3 (file_of "B00102000300000003 B00102000300000003 B1000001 B1010000") (refuse 17)
    ∷ judging c3 (file_of "B00103000300000003 B1010001 B101") (refuse 17)
    -- 18: no job, another n, a job missing, one too many, out of order; and before 19
    ∷ judging c3 (file_of "B00102000300000003") (refuse 18)
    ∷ judging c3 (file_of "B00103000300000003 B1000001 B1010000") (refuse 18)
    ∷ judging c3 (file_of "B00102000300000003 B1000001") (refuse 18)
    ∷ judging c3 (file_of "B00102000300000003 B1000001 B1010000 B1020000") (refuse 18)
    ∷ judging c3 (file_of "B00102000000000003 B1010000 B1000001") (refuse 18)
    -- 19: one station held twice, a latency one off, a start one tick too early for a delay
    ∷ judging c3 (file_of "B00102000300000003 B1000000 B1010000") (refuse 19)
    ∷ judging c3 (file_of "B00102000400000003 B1000001 B1010000") (refuse 19)
    ∷ judging "A0010202 A1010001 A1010002 A200010001 A20100FFFF" (file_of "B00102000100000001 B1000000 B1010000") (refuse 19)
    -- the latest start there is: its latency has no two bytes, and one tick earlier it has
    ∷ judging "A0010100 A1010001" (file_of "B00101000000000001 B100FFFF") (refuse 19)
    ∷ judging "A0010100 A1010001" (file_of "B00101FFFF00000001 B100FFFE") (accept tt)
    -- C8: its latency is 1, and not the number of its ticks; a job that holds no station may have the latest start
    ∷ judging "A0010100 A10200010000" (file_of "B00101000100000001 B1000000") (accept tt)
    ∷ judging "A0010100 A10200010000" (file_of "B00101000200000001 B1000000") (refuse 19)
    ∷ judging "A0010100 A1010000" (file_of "B00101FFFF00000001 B100FFFF") (accept tt)
    -- ends (02, Q-4): both pass, a tick outside either is 19, a job without a line starts when it will; B0 keeps 01; the file's 20 comes first
    ∷ judging "A0020200 A1010001 A1010002 A30000020004" (file_of "B00102000300000000 B1000002 B1010000") (accept tt)
    ∷ judging "A0020200 A1010001 A1010002 A30000020004" (file_of "B00102000500000000 B1000004 B1010000") (accept tt)
    ∷ judging "A0020200 A1010001 A1010002 A30000020004" (file_of "B00102000200000000 B1000001 B1010000") (refuse 19)
    ∷ judging "A0020200 A1010001 A1010002 A30000020004" (file_of "B00102000600000000 B1000005 B1010000") (refuse 19)
    ∷ judging "A0020200 A1010001 A1010002 A30000020004" (file_of "B00102FFFF00000000 B1000002 B101FFFE") (accept tt)
    ∷ judging "A0020200 A1010001 A1010002 A30000020004" (file_of "B00202000300000000 B1000002 B1010000") (refuse 17)
    ∷ judging "A0020100 A1010001 A3010000FFFF" [] (refuse 20)
    -- rest (02, Q-5): r + 1 ticks apart pass, r are 19, in either order; the file's 21 comes first
    ∷ judging "A0020200 A1010001 A1010001 A40002" (file_of "B00102000400000000 B1000000 B1010003") (accept tt)
    ∷ judging "A0020200 A1010001 A1010001 A40002" (file_of "B00102000300000000 B1000000 B1010002") (refuse 19)
    ∷ judging "A0020200 A1010001 A1010001 A40002" (file_of "B00102000300000000 B1000002 B1010000") (refuse 19)
    ∷ judging "A0020200 A1010001 A1010001 A40002" (file_of "B00102FFFF00000000 B1000000 B101FFFE") (accept tt)
    ∷ judging "A0020100 A1010001 A40008" [] (refuse 21)
    ∷ []

pub marked_plans : map (λ r. judge_told (judged r.file r.text)) plan_rows ≡ map (λ r. r.stated) plan_rows
unfolding definitions plan_rows judging characters file_of c3
marked_plans = refl

-- ---- D with rest (02, Q-5): 12 jobs of one tick have 66 times 15 clashes at a rest of 7, and two of 10 and 11 ticks 34 more, which is 1,024; one tick more is 9

unfoldable pub rest_limit : String → List ℕ
rest_limit last =
    file_of "A0020E00 A1010001 A1010001 A1010001 A1010001 A1010001 A1010001 A1010001 A1010001 A1010001 A1010001 A1010001 A1010001 A10A0002000200020002000200020002000200020002"
    ++ characters last ++ file_of " A40007 A40107"

pub limit_rest : (open_told (opened (rest_limit "A10B00020002000200020002000200020002000200020002")).answer ≡ accept tt) × (open_told (opened (rest_limit "A10C000200020002000200020002000200020002000200020002")).answer ≡ refuse 9)
unfolding definitions characters file_of rest_limit
limit_rest = (refl, refl)

-- ---- the program

pub printed_c3 : text_for (file_of c3) ≡ file_of "B00102000300000003 B1000001 B1010000"
unfolding definitions characters file_of c3
printed_c3 = refl

-- ---- the bound on N is reached: C3 has one clash and takes 3 nodes, and a batch of two clashes without a plan takes 7

pub limit_c3 : let b = (opened (file_of c3)).search.batch in Ends b (node_limit b)
unfolding definitions characters file_of c3
limit_c3 = record { ended = refl; total = refl }

unfoldable pub two_clashes : String
two_clashes = "A0010402 A1010001 A1010001 A1010002 A1010002 A202030000 A203020000"

pub limit_two : let b = (opened (file_of two_clashes)).search.batch in Ends b (node_limit b)
unfolding definitions characters file_of two_clashes
limit_two = record { ended = refl; total = refl }
