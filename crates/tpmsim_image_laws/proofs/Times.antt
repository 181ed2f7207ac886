-- A stopwatch counts no millisecond twice.
use Rattle.std.proofs.Common.{◌≡◌, ℕ, ◌+◌, ◌-◌, ◌/◌, ◌≤◌, List, [], ◌∷◌, Some, max, arith}
use Rattle.std.specs.List.{AllByRecursion}
use Rattle.tpmsim_image.specs.Stopwatch.{StopwatchState, reported_time}
use Rattle.tpmsim_image_laws.specs.Times.{TellsNoTimeTwice, new_stopwatch, told_together}

-- a stopwatch whose first command arrived at the time `first`; since then, `passed` milliseconds
-- have been reported as elapsed time, or dropped
abbrev running : (first passed : ℕ) → StopwatchState
running first passed = record { first = Some first; passed = passed }

since : (first now : ℕ) → ℕ
since first now = (now - first) / 1000000

told_few : (first passed now : ℕ) → passed + reported_time now (running first passed)
    ≤ max passed (since first now)
unfolding since
told_few first passed now = omega arith

since_few : (first now latest : ℕ) → now ≤ latest → since first now ≤ since first latest
unfolding since
since_few first now latest is = omega (arith, is)

few : (first passed latest : ℕ) (times : List ℕ) → passed ≤ since first latest
    → AllByRecursion (λ now. now ≤ latest) times
    → passed + told_together (running first passed) times ≤ since first latest
unfolding since
few first passed latest [] within are = omega (arith, within)
few first passed latest (now ∷ times) within are =
    let after = max passed ((now - first) / 1000000) in
    let less = since_few first now latest are.0 in
    let rest = few first after latest times (omega (arith, within, less)) are.1 in
    sum passed (reported_time now (running first passed)) after
    (told_together (running first after) times) ((latest - first) / 1000000)
    (told_few first passed now) rest
  where
    sum : (passed told after more total : ℕ) → passed + told ≤ after → after + more ≤ total
        → passed + (told + more) ≤ total
    sum passed told after more total t r = omega (arith, t, r)

pub tells_no_time_twice : TellsNoTimeTwice
unfolding since
tells_no_time_twice first latest times are =
    let rest = few first (max 0 ((first - first) / 1000000)) latest times (omega arith) are in
    let none : reported_time first new_stopwatch ≡ 0 = omega arith in
    omega (arith, rest, none)
