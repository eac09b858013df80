-- The limits of 01 and 02, each named once.
use Rattle.std.specs.Prelude.{ℕ}

abbrev pub most_jobs : ℕ
most_jobs = 24

abbrev pub most_delays : ℕ
most_delays = 128

abbrev pub most_ticks : ℕ
most_ticks = 16

abbrev pub stations : ℕ
stations = 16

-- w is −1,000 to 1,000
abbrev pub most_weight : ℕ
most_weight = 1000

-- D, and the places of a path
abbrev pub most_clashes : ℕ
most_clashes = 1024

-- an earliest start is 0 to 20,000 (02, Q-4)
abbrev pub most_earliest : ℕ
most_earliest = 20000

-- the latest start of a job without a line (02, Q-4), the largest number of two bytes
abbrev pub no_latest : ℕ
no_latest = 65535

-- a station rests 1 to 7 ticks where it has a line (02, Q-5)
abbrev pub most_rest : ℕ
most_rest = 7

-- the distance of a clash is −22 to 22 (02, Q-5)
abbrev pub most_distance : ℕ
most_distance = 22

-- no start passes 43,000, and no latency 43,016 (02, Q-4)
abbrev pub most_start : ℕ
most_start = 43000

abbrev pub most_latency : ℕ
most_latency = 43016

-- of one run, and of a whole search
abbrev pub most_budget : ℕ
most_budget = 1000000

abbrev pub most_total : ℕ
most_total = 100000000
