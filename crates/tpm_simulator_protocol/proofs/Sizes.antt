-- The size of a request is known as soon as its numbers are received, and stays the same.
use Rattle.std.proofs.Common.{◌≡◌, ℕ, ◌+◌, ◌<◌, ◌≤◌, Bool, true, false, List, [], ◌∷◌, ◌++◌, length, Option, Some, None, refl, sym, ap, ◌∙◌, subst, arith}
use Rattle.std.specs.Prelude.{nat_le, ◌==◌, ◌||◌, option_map, option_and_then, if◌then◌else◌}
use Rattle.std.proofs.lemmas.Bool.{leb-true}
use Rattle.tpm_simulator_protocol.specs.Request.{command_limit, command_port_size, command_size_at, following, number_at, request_limit, request_size, second_at, size_by}
use Rattle.tpm_simulator_protocol.specs.declared.request.Port.{Port}
use Rattle.tpm_simulator_protocol.specs.declared.request.Port.TheVariants.{Commands, Platform}

pub some_is : {X : Type 0} (x y : X) → Some x ≡ Some y → x ≡ y
some_is x y e = cc

-- If the first value is known, the second value is the same.
abbrev Stays : Option ℕ → Option ℕ → Type 0
Stays o p = (v : ℕ) → o ≡ Some v → p ≡ Some v

number_stays : (bytes more : List ℕ) → Stays (number_at bytes) (number_at (bytes ++ more))
unfolding number_at
number_stays (a ∷ b ∷ c ∷ d ∷ bytes) more v is = is
number_stays bytes more v is = absurd cc

second_stays : (bytes more : List ℕ) → Stays (second_at bytes) (second_at (bytes ++ more))
unfolding second_at
second_stays (a ∷ b ∷ c ∷ d ∷ e ∷ f ∷ g ∷ h ∷ bytes) more v is = is
second_stays bytes more v is = absurd cc

command_stays : (bytes more : List ℕ)
    → Stays (command_size_at bytes) (command_size_at (bytes ++ more))
unfolding command_size_at
command_stays (a ∷ b ∷ c ∷ d ∷ l ∷ e ∷ f ∷ g ∷ h ∷ bytes) more v is = is
command_stays bytes more v is = absurd cc

number_known : (bytes : List ℕ) → number_at bytes ≡ None → length bytes < 4
unfolding number_at
number_known (a ∷ b ∷ c ∷ d ∷ bytes) is = absurd cc
number_known [] is = omega arith
number_known (a ∷ []) is = omega arith
number_known (a ∷ b ∷ []) is = omega arith
number_known (a ∷ b ∷ c ∷ []) is = omega arith

second_known : (bytes : List ℕ) → second_at bytes ≡ None → length bytes < 8
unfolding second_at
second_known (a ∷ b ∷ c ∷ d ∷ e ∷ f ∷ g ∷ h ∷ bytes) is = absurd cc
second_known [] is = omega arith
second_known (a ∷ []) is = omega arith
second_known (a ∷ b ∷ []) is = omega arith
second_known (a ∷ b ∷ c ∷ []) is = omega arith
second_known (a ∷ b ∷ c ∷ d ∷ []) is = omega arith
second_known (a ∷ b ∷ c ∷ d ∷ e ∷ []) is = omega arith
second_known (a ∷ b ∷ c ∷ d ∷ e ∷ f ∷ []) is = omega arith
second_known (a ∷ b ∷ c ∷ d ∷ e ∷ f ∷ g ∷ []) is = omega arith

command_known : (bytes : List ℕ) → command_size_at bytes ≡ None → length bytes < 9
unfolding command_size_at
command_known (a ∷ b ∷ c ∷ d ∷ l ∷ e ∷ f ∷ g ∷ h ∷ bytes) is = absurd cc
command_known [] is = omega arith
command_known (a ∷ []) is = omega arith
command_known (a ∷ b ∷ []) is = omega arith
command_known (a ∷ b ∷ c ∷ []) is = omega arith
command_known (a ∷ b ∷ c ∷ d ∷ []) is = omega arith
command_known (a ∷ b ∷ c ∷ d ∷ e ∷ []) is = omega arith
command_known (a ∷ b ∷ c ∷ d ∷ e ∷ f ∷ []) is = omega arith
command_known (a ∷ b ∷ c ∷ d ∷ e ∷ f ∷ g ∷ []) is = omega arith
command_known (a ∷ b ∷ c ∷ d ∷ e ∷ f ∷ g ∷ h ∷ []) is = omega arith

-- ---- by the number of the request

abbrev with_command : ℕ → ℕ
with_command size = 9 + following 10 size

abbrev with_data : ℕ → ℕ
with_data size = 8 + following 0 size

-- the size of a request to the port for commands. The tests say whether it has a command, data, or
-- a second number
abbrev size_in : Bool → Bool → Bool → List ℕ → Option ℕ
size_in command more second bytes =
    if command then option_map with_command (command_size_at bytes)
    else if more then option_map with_data (second_at bytes)
    else if second then Some 8
    else Some 4

map_stays : (f : ℕ → ℕ) (o p : Option ℕ) → Stays o p → Stays (option_map f o) (option_map f p)
map_stays f None p to v is = absurd cc
map_stays f (Some x) p to v is =
    subst (λ (q : Option ℕ). option_map f q ≡ Some v) (sym (to x refl)) is

in_stays : (a b c : Bool) (bytes more : List ℕ)
    → Stays (size_in a b c bytes) (size_in a b c (bytes ++ more))
in_stays true b c bytes more v is =
    map_stays with_command (command_size_at bytes) (command_size_at (bytes ++ more))
    (command_stays bytes more) v is
in_stays false true c bytes more v is =
    map_stays with_data (second_at bytes) (second_at (bytes ++ more)) (second_stays bytes more) v is
in_stays false false true bytes more v is = is
in_stays false false false bytes more v is = is

by_stays : (p : Port) (number : ℕ) (bytes more : List ℕ)
    → Stays (size_by p number bytes) (size_by p number (bytes ++ more))
unfolding command_port_size
by_stays Commands number bytes more v is =
    in_stays (number == 8) (number == 6) (number == 15 || number == 16) bytes more v is
by_stays Platform number bytes more v is = is

-- If the size of a request is known, more bytes do not change it.
pub size_stays : (p : Port) (bytes more : List ℕ) (n : ℕ) → request_size p bytes ≡ Some n
    → request_size p (bytes ++ more) ≡ Some n
size_stays p bytes more n is = by (number_at bytes) refl is
  where
    by : (o : Option ℕ) → number_at bytes ≡ o
        → option_and_then (λ number. size_by p number bytes) o ≡ Some n
        → request_size p (bytes ++ more) ≡ Some n
    by None e f = absurd cc
    by (Some v) e f =
        subst
        (λ (q : Option ℕ). option_and_then (λ number. size_by p number (bytes ++ more)) q ≡ Some n)
        (sym (number_stays bytes more v e)) (by_stays p v bytes more n f)

-- ---- bounds

following_bound : (least size : ℕ) → least ≤ command_limit → following least size ≤ command_limit
following_bound least size low = by (nat_le size command_limit) refl
  where
    by : (b : Bool) → nat_le size command_limit ≡ b → (if b then size else least) ≤ command_limit
    by true e = leb-true size command_limit e
    by false e = low

sum_bounds : (start y : ℕ) → y ≤ command_limit
    → (start ≤ start + y) × (start + y ≤ start + command_limit)
sum_bounds start y low = (omega arith, omega (arith, low))

map_bounds : (f : ℕ → ℕ) (o : Option ℕ) (n low high : ℕ)
    → ((x : ℕ) → (low ≤ f x) × (f x ≤ high)) → option_map f o ≡ Some n → (low ≤ n) × (n ≤ high)
map_bounds f None n low high each is = absurd cc
map_bounds f (Some x) n low high each is =
    subst (λ (m : ℕ). (low ≤ m) × (m ≤ high)) (some_is _ _ is) (each x)

command_bounds : (o : Option ℕ) (n : ℕ) → option_map with_command o ≡ Some n
    → (9 ≤ n) × (n ≤ request_limit)
command_bounds o n is =
    map_bounds with_command o n 9 request_limit
    (λ x. sum_bounds 9 (following 10 x) (following_bound 10 x (omega arith))) is

data_bounds : (o : Option ℕ) (n : ℕ) → option_map with_data o ≡ Some n
    → (8 ≤ n) × (n ≤ 4104)
data_bounds o n is =
    map_bounds with_data o n 8 4104
    (λ x. sum_bounds 8 (following 0 x) (following_bound 0 x (omega arith))) is

in_bounds : (a b c : Bool) (bytes : List ℕ) (n : ℕ) → size_in a b c bytes ≡ Some n
    → (4 ≤ n) × (n ≤ request_limit)
in_bounds true b c bytes n is =
    let at = command_bounds (command_size_at bytes) n is in (omega (arith, at.0), at.1)
in_bounds false true c bytes n is =
    let at = data_bounds (second_at bytes) n is in (omega (arith, at.0), omega (arith, at.1))
in_bounds false false true bytes n is =
    let at = some_is 8 n is in (omega (arith, at), omega (arith, at))
in_bounds false false false bytes n is =
    let at = some_is 4 n is in (omega (arith, at), omega (arith, at))

by_bounds : (p : Port) (number : ℕ) (bytes : List ℕ) (n : ℕ) → size_by p number bytes ≡ Some n
    → (4 ≤ n) × (n ≤ request_limit)
unfolding command_port_size
by_bounds Commands number bytes n is =
    in_bounds (number == 8) (number == 6) (number == 15 || number == 16) bytes n is
by_bounds Platform number bytes n is =
    let at = some_is 4 n is in (omega (arith, at), omega (arith, at))

-- If the size of a request is known, it is between 4 and 4,105 bytes.
pub size_bounds : (p : Port) (bytes : List ℕ) (n : ℕ) → request_size p bytes ≡ Some n
    → (4 ≤ n) × (n ≤ request_limit)
size_bounds p bytes n is = by (number_at bytes) is
  where
    by : (o : Option ℕ) → option_and_then (λ number. size_by p number bytes) o ≡ Some n
        → (4 ≤ n) × (n ≤ request_limit)
    by None f = absurd cc
    by (Some v) f = by_bounds p v bytes n f

-- ---- a size that is not known yet

map_none : (f : ℕ → ℕ) (o : Option ℕ) → option_map f o ≡ None → o ≡ None
map_none f None is = refl
map_none f (Some x) is = absurd cc

in_short : (a b c : Bool) (bytes more : List ℕ) (n : ℕ) → size_in a b c bytes ≡ None
    → size_in a b c (bytes ++ more) ≡ Some n → length bytes < n
in_short true b c bytes more n none is =
    omega (
      arith,
      command_known bytes (map_none with_command (command_size_at bytes) none),
      (command_bounds (command_size_at (bytes ++ more)) n is).0,
    )
in_short false true c bytes more n none is =
    omega (
      arith,
      second_known bytes (map_none with_data (second_at bytes) none),
      (data_bounds (second_at (bytes ++ more)) n is).0,
    )
in_short false false true bytes more n none is = absurd cc
in_short false false false bytes more n none is = absurd cc

by_short : (p : Port) (number : ℕ) (bytes more : List ℕ) (n : ℕ) → size_by p number bytes ≡ None
    → size_by p number (bytes ++ more) ≡ Some n → length bytes < n
unfolding command_port_size
by_short Commands number bytes more n none is =
    in_short (number == 8) (number == 6) (number == 15 || number == 16) bytes more n none is
by_short Platform number bytes more n none is = absurd cc

in_few : (a b c : Bool) (bytes : List ℕ) → size_in a b c bytes ≡ None
    → length bytes < request_limit
in_few true b c bytes none =
    omega (arith, command_known bytes (map_none with_command (command_size_at bytes) none))
in_few false true c bytes none =
    omega (arith, second_known bytes (map_none with_data (second_at bytes) none))
in_few false false true bytes none = absurd cc
in_few false false false bytes none = absurd cc

by_few : (p : Port) (number : ℕ) (bytes : List ℕ) → size_by p number bytes ≡ None
    → length bytes < request_limit
unfolding command_port_size
by_few Commands number bytes none =
    in_few (number == 8) (number == 6) (number == 15 || number == 16) bytes none
by_few Platform number bytes none = absurd cc

-- If the size of a request is not known yet, fewer bytes than its size were received.
pub none_short : (p : Port) (bytes more : List ℕ) (n : ℕ) → request_size p bytes ≡ None
    → request_size p (bytes ++ more) ≡ Some n → length bytes < n
none_short p bytes more n none is = by (number_at bytes) refl none
  where
    by : (o : Option ℕ) → number_at bytes ≡ o
        → option_and_then (λ number. size_by p number bytes) o ≡ None → length bytes < n
    by None e f =
        omega (arith, number_known bytes e, (size_bounds p (bytes ++ more) n is).0)
    by (Some v) e f =
        by_short p v bytes more n f
        (subst
        (λ (q : Option ℕ). option_and_then (λ number. size_by p number (bytes ++ more)) q ≡ Some n)
        (number_stays bytes more v e) is)

-- Suppose that a request of this size is a front of some bytes, and that these begin a longer text.
-- Then its size is known from these bytes alone.
pub own_size : (p : Port) (grown more all : List ℕ) (n : ℕ) → grown ++ more ≡ all
    → request_size p all ≡ Some n → n ≤ length grown → request_size p grown ≡ Some n
own_size p grown more all n same size fits = by (request_size p grown) refl
  where
    longer : request_size p (grown ++ more) ≡ Some n
    longer = ap (request_size p) same ∙ size

    by : (o : Option ℕ) → request_size p grown ≡ o → o ≡ Some n
    by None e = absurd (let l = none_short p grown more n e longer in omega (arith, l, fits))
    by (Some m) e = sym (size_stays p grown more m e) ∙ longer

-- If the size of a request is not known yet, fewer bytes were received than a request
-- can have.
pub unknown_short : (p : Port) (bytes : List ℕ) → request_size p bytes ≡ None
    → length bytes < request_limit
unknown_short p bytes none = by (number_at bytes) refl none
  where
    by : (o : Option ℕ) → number_at bytes ≡ o
        → option_and_then (λ number. size_by p number bytes) o ≡ None → length bytes < request_limit
    by None e f = omega (arith, number_known bytes e)
    by (Some v) e f = by_few p v bytes f
