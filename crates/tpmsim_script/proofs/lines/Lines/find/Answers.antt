use Rattle.std.proofs.Common.{rules, ◌≡◌, ℕ, ◌==◌, None, Some, refl, sym}
use Rattle.std.specs.List.{position}
use Rattle.tpmsim_script.specs.Lines.{line_of, rest_of}
use Rattle.tpmsim_script.proofs.LineBreaks.{found_line, found_too_long, found_no_end, stopped_finds}
use Rattle.tpmsim_script.proofs.lines.Lines.find.Goals as goal

pub returns-in-Ok-clause-found : goal.returns-in-Ok-clause-found
returns-in-Ok-clause-found c =
    let at : position (λ (byte : ℕ). byte == 10) (rest_of c.args.self.now) ≡ Some c.in-Some.at =
    search rules in
    λ more follows. let found =
    found_line (line_of c.args.self.now) (rest_of c.args.self.now) more c.in-Some.at c.requires
    at in
    rw (c.in-Ok.ensures.line, c.in-Ok.ensures.rest) found

pub returns-in-Err-clause-found : goal.returns-in-Err-clause-found
returns-in-Err-clause-found c =
    let at : position (λ (byte : ℕ). byte == 10) (rest_of c.args.self.now) ≡ Some c.in-Some.at =
    search rules in
    λ more. found_too_long (line_of c.args.self.now) (rest_of c.args.self.now) more c.in-Some.at
    c.requires at c.in-Err.ensures.long

pub returns-in-Ok-take_rest-clause-found : goal.returns-in-Ok-take_rest-clause-found
returns-in-Ok-take_rest-clause-found c =
    let none : position (λ (byte : ℕ). byte == 10) (rest_of c.args.self.now) ≡ None =
    search rules in
    let old = c.args.self.now in
    let new = c.take_rest.new.self in
    rw c.stopped.ensures
    (stopped_finds old new new.ended (line_of new) (sym c.in-Ok-take_rest.ensures.ended)
    refl c.in-Ok-take_rest.ensures.line c.in-Ok-take_rest.ensures.rest c.requires none
    c.in-Ok-take_rest.ensures.limit)

pub returns-in-Err-take_rest-clause-found : goal.returns-in-Err-take_rest-clause-found
returns-in-Err-take_rest-clause-found c =
    let none : position (λ (byte : ℕ). byte == 10) (rest_of c.args.self.now) ≡ None =
    search rules in
    λ more. found_no_end (line_of c.args.self.now) (rest_of c.args.self.now) more c.requires none
    c.in-Err-take_rest.ensures.long
