-- The number of a version identifies the version. The limits of a version do not exceed the limits
-- of the device, and their encoding can be read back.
use Rattle.tpm_types_common.specs.Limits.{nv_index_limit, nv_space_limit}
use Rattle.std.proofs.Common.{◌≡◌, ℕ, ◌^◌, ◌<◌, ◌≤◌, Bool, true, false, List, ◌++◌, length, Some, None, Result, Ok, refl, ap, sym, subst, ◌∙◌, append_assoc, arith}
use Rattle.std.specs.Prelude.{◌==◌, not, if◌then◌else◌}
use Rattle.std.specs.Int.{w16, w32, to_be_bytes}
use Rattle.std.proofs.lemmas.Bool.{eqb-true}
use Rattle.tpm_bytes.specs.Reading.{◌>>=◌, refused_if}
use Rattle.tpm_bytes.proofs.Fields.{Takes, Takes-then, bind_ok, ok_is, passed, wide16, wide32}
use Rattle.tpm_types_common.proofs.Spelled.{Spelled}
use Rattle.tpm_commands.specs.declared.profile.Profile.{Profile}
use Rattle.tpm_commands.specs.declared.profile.Profile.TheVariants.{Symmetric, Complete}
use Rattle.tpm_image_text.specs.Body.{are_limits_of, device_limits_in, limits_in, limits_text}
use Rattle.tpm_image_text.specs.Fields.{malformed_fault, number_in}
use Rattle.tpm_image_text.specs.Sizes.{limits_size}
use Rattle.tpm_image_text.specs.Version.{index_limit, profile_of, space_limit, version_number, version_numbered, version_of}
use Rattle.tpm_image_text.specs.declared.fault.Malformed.{Malformed}
use Rattle.tpm_image_text.specs.declared.version.Version.{Version}
use Rattle.tpm_image_text.specs.declared.version.Version.TheVariants.{One, Two, CompleteOne}
use Rattle.tpm_image_text.proofs.FieldSpelling.{not_false, number_in_spelled, only}
use Rattle.tpm_image_text.proofs.SortedMapLaws.{are_both}

-- ---- numbers

-- whether the images of a version begin with the magic word of the complete profile
abbrev pub is_complete : Version → Bool
is_complete One = false
is_complete Two = false
is_complete CompleteOne = true

-- A version has the magic word of the complete profile or not, and this number.
abbrev pub Has : Version → (complete : Bool) → ℕ → Type 0
Has version complete number = (complete ≡ is_complete version) × (number ≡ version_number version)

pub numbered-is : (complete : Bool) (number : ℕ) (version : Version)
    → version_numbered complete number ≡ Some version → Has version complete number
unfolding version_numbered
numbered-is complete number version found = by complete (number == 1) (number == 2) refl refl found
  where
    by : (is one two : Bool) → (number == 1) ≡ one → (number == 2) ≡ two
        → (if is then (if one then Some CompleteOne else None)
        else (if one then Some One else (if two then Some Two else None))) ≡ Some version
        → Has version is number
    by true true two is_one is_two found =
        let same : CompleteOne ≡ version = cc in
        subst (λ (v : Version). Has v true number) same (refl, eqb-true number 1 is_one)
    by true false two is_one is_two found = absurd cc
    by false true two is_one is_two found =
        let same : One ≡ version = cc in
        subst (λ (v : Version). Has v false number) same (refl, eqb-true number 1 is_one)
    by false false true is_one is_two found =
        let same : Two ≡ version = cc in
        subst (λ (v : Version). Has v false number) same (refl, eqb-true number 2 is_two)
    by false false false is_one is_two found = absurd cc

pub numbered-again : (version : Version)
    → version_numbered (is_complete version) (version_number version) ≡ Some version
unfolding version_numbered
numbered-again One = refl
numbered-again Two = refl
numbered-again CompleteOne = refl

pub number_small : (version : Version) → version_number version < 2 ^ 16
number_small One = omega arith
number_small Two = omega arith
number_small CompleteOne = omega arith

-- ---- limits

pub indices_within : (version : Version) → index_limit version ≤ nv_index_limit
indices_within One = omega arith
indices_within Two = omega arith
indices_within CompleteOne = omega arith

pub space_within : (version : Version) → space_limit version ≤ nv_space_limit
space_within One = omega arith
space_within Two = omega arith
space_within CompleteOne = omega arith

device_spelled : Spelled (λ (said : Unit {0}). limits_text Two) (λ said. Unit {0}) device_limits_in
unfolding device_limits_in limits_text
device_spelled = record {
  taken = λ bytes x fits e.
      let said : ℕ → ℕ × List ℕ → Result (Unit {0} × List ℕ) Malformed =
      λ i s. refused_if (not (are_limits_of Two i s.0)) malformed_fault
      >>= λ same. Ok (tt, s.1) in
      let a = bind_ok (number_in w16 bytes) (λ i. number_in w32 i.1 >>= said i.0) x e in
      let b = bind_ok (number_in w32 a.0.1) (said a.0.0) x a.2 in
      let refuses = not (are_limits_of Two a.0.0 b.0.0) in
      let c = bind_ok (refused_if refuses malformed_fault) (λ same. Ok (tt, b.0.1)) x b.2 in
      let first = (number_in_spelled w16 (2 ^ 16) wide16).taken bytes a.0 fits a.1 in
      let second = (number_in_spelled w32 (2 ^ 32) wide32).taken a.0.1 b.0 first.0.rest_fits b.1 in
      let both = Takes-then bytes (to_be_bytes w16 a.0.0) a.0.1 (to_be_bytes w32 b.0.0) b.0.1
      first.0 second.0 in
      let are = are_both (a.0.0 == index_limit Two) (b.0.0 == space_limit Two)
      (not_false _ (passed refuses malformed_fault c.0 c.1)) in
      let left : b.0.1 ≡ x.1 =
      ap (λ (y : Unit {0} × List ℕ). y.1) (ok_is {E = Malformed} (tt, b.0.1) x c.2) in (
        subst (λ (l : List ℕ). Takes bytes (limits_text Two) l) left
            (subst (λ (n : ℕ). Takes bytes (to_be_bytes w16 n ++ to_be_bytes w32 (space_limit Two))
            b.0.1) (eqb-true _ _ are.0)
            (subst (λ (n : ℕ). Takes bytes (to_be_bytes w16 a.0.0 ++ to_be_bytes w32 n) b.0.1)
            (eqb-true _ _ are.1) both)),
        tt,
      );
  again = λ said rest is.
      let indices = to_be_bytes w16 (index_limit Two) in
      let space = to_be_bytes w32 (space_limit Two) in
      let first = (number_in_spelled w16 (2 ^ 16) wide16).again (index_limit Two) (space ++ rest)
      (omega arith) in
      let second = (number_in_spelled w32 (2 ^ 32) wide32).again (space_limit Two) rest
      (omega arith) in
      ap device_limits_in (append_assoc indices space rest) ∙ rw (first, second) refl;
}

-- if the bytes of the limits are read exactly, so are those of limits that stand for a profile
of_profile : (text : List ℕ) (at : List ℕ → Result (Unit {0} × List ℕ) Malformed) (p : Profile)
    → Spelled (λ (said : Unit {0}). text) (λ said. Unit {0}) at
    → Spelled (λ (x : Profile). text) (λ x. x ≡ p) (λ bytes. at bytes >>= λ said. Ok (p, said.1))
of_profile text at p law = record {
  taken = λ bytes x fits e.
      let a = bind_ok (at bytes) (λ said. Ok (p, said.1)) x e in
      let t = law.taken bytes a.0 fits a.1 in
      subst (λ (y : Profile × List ℕ). Takes bytes text y.1 × (y.0 ≡ p))
      (ok_is {E = Malformed} (p, a.0.1) x a.2) (t.0, refl);
  again = λ x rest is.
      ap (λ (r : Result (Unit {0} × List ℕ) Malformed). r >>= λ said. Ok (p, said.1))
      (law.again tt rest tt)
      ∙ ap (λ (q : Profile). let y : Result (Profile × List ℕ) Malformed = Ok (q, rest) in y)
      (sym is);
}

pub limits_spelled : (version : Version)
    → Spelled (λ (said : Profile). limits_text version) (λ said. said ≡ profile_of version)
    (limits_in version)
unfolding limits_in limits_text
limits_spelled One = only Symmetric refl refl (λ said is. is)
limits_spelled Two = of_profile (limits_text Two) device_limits_in Symmetric device_spelled
limits_spelled CompleteOne = of_profile (limits_text Two) device_limits_in Complete device_spelled

-- the device's limits, in the version of either profile
pub limits_same : (profile : Profile) → limits_text (version_of profile)
    ≡ to_be_bytes w16 (index_limit Two) ++ to_be_bytes w32 (space_limit Two)
unfolding limits_text
limits_same Symmetric = refl
limits_same Complete = refl

pub limits_small : (version : Version) → length (limits_text version) ≤ limits_size
unfolding limits_text
limits_small One = omega arith
limits_small Two = omega arith
limits_small CompleteOne = omega arith
