-- Lemmas about reading NV indices one after another, as long as their data fit in a given space,
-- which is at most the device's space.
use Rattle.tpm_types_common.specs.Limits.{nv_index_limit, nv_space_limit}
use Rattle.std.proofs.Common.{arith, ◌≡◌, ℕ, suc, ◌+◌, ◌-◌, ◌<◌, ◌≤◌, true, false, leb, ltb, List, [], ◌∷◌, ◌++◌, length, Result, Ok, Err, IfOk, Bool, inl, inr, refl, sym, ap, ◌∙◌}
use Rattle.std.specs.Prelude.{◌⊎◌, ◌&&◌, map, nat_le, not}
use Rattle.std.proofs.lemmas.List.Sums.{sum_by-append, sum_by-cons}
use Rattle.std.proofs.lemmas.Bool.{le-leb, leb-false, lt-leb, lt-ltb}
use Rattle.tpm_containers.specs.SortedMap.{Entries}
use Rattle.tpm_bytes.specs.Reading.{◌>>=◌, refused_if}
use Rattle.tpm_nv.specs.Head.{head_of, heads_of, total}
use Rattle.tpm_nv.specs.declared.head.Head.{Head}
use Rattle.tpm_nv.specs.Index.{NvContents, NvIndex, data_bytes, has_room}
use Rattle.tpm_image_text.specs.Body.{bytes_of, have_space}
use Rattle.tpm_image_text.specs.Fields.{malformed_fault}
use Rattle.tpm_image_text.specs.Filling.{Appends, Fills}
use Rattle.tpm_image_text.specs.declared.fault.FillFault.{FillFault}
use Rattle.tpm_image_text.specs.declared.fault.FillFault.TheVariants as unfilled
use Rattle.tpm_image_text.specs.declared.fault.Malformed.{Malformed}
use Rattle.tpm_image_text.proofs.EntriesLaws.{before, entries_cut, entries_done, entries_from, entries_left}

-- the indices that were read, if there is enough space for their data
abbrev pub with_space : ℕ → Entries NvIndex × List ℕ → Result (Entries NvIndex × List ℕ) Malformed
with_space limit o = refused_if (not (have_space limit o.0)) malformed_fault >>= λ passed. Ok o

-- if a device has fewer indices than its limit, an index that does not fit needs more space for its
-- data than is left
pub no_space : (contents : NvContents) (size : ℕ) → length contents.indices < nv_index_limit
    → has_room contents size ≡ false → nv_space_limit < data_bytes contents + size
no_space contents size few full =
    leb-false (data_bytes contents + size) nv_space_limit
    (rest (ltb (length contents.indices) nv_index_limit)
    (lt-ltb (length contents.indices) nv_index_limit few) full)
  where
    rest : (b : _) → b ≡ true → (b && nat_le (data_bytes contents + size) nv_space_limit) ≡ false
        → leb (data_bytes contents + size) nv_space_limit ≡ false
    rest true is none = none
    rest false is none = absurd cc

-- if there is no space for the next index, the bytes are malformed
pub entries_full : (limit : ℕ) (at : List ℕ → Result ((ℕ × NvIndex) × List ℕ) Malformed)
    (count place low : ℕ) (so_far : Entries NvIndex) (text : List ℕ) → place < count
    → IfOk (at text) (λ x. limit < bytes_of so_far + x.0.1.public.data_size)
    → (entries_left at count place low so_far text >>= with_space limit) ≡ Err malformed_fault
unfolding entries_left entries_from
entries_full limit at count place low so_far text below full = rw left (by (at text) full)
  where
    left : count - place ≡ suc (count - (place + 1))
    left = omega (arith, below)

    too_many : (x : ℕ × NvIndex) (others : Result (Entries NvIndex × List ℕ) Malformed)
        → limit < bytes_of so_far + x.1.public.data_size
        → (others >>= before x >>= (λ o. Ok (so_far ++ o.0, o.1)) >>= with_space limit)
        ≡ Err malformed_fault
    too_many x (Err fault) over = refl
    too_many x (Ok o) over =
        let sum = sum_by-append (λ (e : ℕ × NvIndex). e.1.public.data_size) so_far (x ∷ o.0) in
        let one = sum_by-cons (λ (e : ℕ × NvIndex). e.1.public.data_size) x o.0 in
        rw (lt-leb (bytes_of (so_far ++ x ∷ o.0)) limit (omega (arith, sum, one, over))) refl

    in_order : (b : Bool) (x : ℕ × NvIndex) (others : Result (Entries NvIndex × List ℕ) Malformed)
        → limit < bytes_of so_far + x.1.public.data_size
        → (refused_if (not b) malformed_fault >>= (λ first. others >>= before x)
        >>= (λ o. Ok (so_far ++ o.0, o.1)) >>= with_space limit) ≡ Err malformed_fault
    in_order true x others over = too_many x others over
    in_order false x others over = refl

    by : (r : Result ((ℕ × NvIndex) × List ℕ) Malformed)
        → IfOk r (λ x. limit < bytes_of so_far + x.0.1.public.data_size)
        → (r >>= (λ first. refused_if (not (nat_le low first.0.0)) malformed_fault
        >>= λ ordered. entries_from at (count - (place + 1)) (first.0.0 + 1) first.1
        >>= before first.0) >>= (λ o. Ok (so_far ++ o.0, o.1)) >>= with_space limit)
        ≡ Err malformed_fault
    by (Err fault) over = refl
    by (Ok x) over = in_order (nat_le low x.0.0) x.0
        (entries_from at (count - (place + 1)) (x.0.0 + 1) x.1) over

-- if reading an index fails, the whole call returns the same fault
pub indices_cut : (limit : ℕ) (can : Bool) (at : List ℕ → Result ((ℕ × NvIndex) × List ℕ) Malformed)
    (count place low : ℕ) (so_far new filled : Entries NvIndex) (text rest behind : List ℕ)
    (whole : Result (Entries NvIndex × List ℕ) Malformed) (fault : FillFault)
    → limit ≤ nv_space_limit → place < count
    → (entries_left at count place low so_far text >>= with_space limit) ≡ whole
    → Appends can (at text) low (λ e. (e.0 < low)
    ⊎ (nv_space_limit < bytes_of so_far + e.1.public.data_size)) so_far (Err fault) new rest
    → Fills can whole filled (Err fault) behind
indices_cut limit can at count place low so_far new filled text rest behind whole unfilled.NoMemory
    less below is may = may
indices_cut limit can at count place low so_far new filled text rest behind whole unfilled.Malformed
    less below is misfits = sym is ∙ by (at text) refl misfits
  where
    by : (r : Result ((ℕ × NvIndex) × List ℕ) Malformed) → at text ≡ r
        → IfOk r (λ x. (x.0.0 < low) ⊎ (nv_space_limit < bytes_of so_far + x.0.1.public.data_size))
        → (entries_left at count place low so_far text >>= with_space limit) ≡ Err malformed_fault
    by (Err fault) read all =
        ap (λ (r : Result (Entries NvIndex × List ℕ) Malformed). r >>= with_space limit)
        (entries_cut at count place low so_far text below (rw read tt))
    by (Ok x) read (inl under) =
        ap (λ (r : Result (Entries NvIndex × List ℕ) Malformed). r >>= with_space limit)
        (entries_cut at count place low so_far text below (rw read under))
    by (Ok x) read (inr over) =
        entries_full limit at count place low so_far text below
        (rw read (omega (arith, over, less)))

-- if there is space for all indices that were read, the result of the whole loop consists of these
-- indices
pub indices_done : (limit : ℕ) (at : List ℕ → Result ((ℕ × NvIndex) × List ℕ) Malformed)
    (count place low : ℕ) (so_far : Entries NvIndex) (text : List ℕ) → place ≡ count
    → bytes_of so_far ≤ limit → (entries_left at count place low so_far text >>= with_space limit)
    ≡ Ok (so_far, text)
indices_done limit at count place low so_far text whole small =
    rw (entries_done at count place low so_far text whole, le-leb (bytes_of so_far) limit small)
    refl

-- if there is no space for all indices that were read, the result of the whole loop is malformed
pub indices_over : (limit : ℕ) (at : List ℕ → Result ((ℕ × NvIndex) × List ℕ) Malformed)
    (count place low : ℕ) (so_far : Entries NvIndex) (text : List ℕ) → place ≡ count
    → limit < bytes_of so_far → (entries_left at count place low so_far text >>= with_space limit)
    ≡ Err malformed_fault
indices_over limit at count place low so_far text whole over =
    rw (entries_done at count place low so_far text whole, lt-leb (bytes_of so_far) limit over) refl

-- NV indices and their heads, which lack the data, have the same total data size
pub heads_total : (es : Entries NvIndex) → total (map (λ (e : ℕ × NvIndex). (e.0, head_of e.1)) es)
    ≡ bytes_of es
heads_total [] = refl
heads_total (e ∷ es) =
    omega (arith, heads_total es, sum_by-cons (λ (e : ℕ × NvIndex). e.1.public.data_size) e es)

pub heads_long : (contents : NvContents) (heads : Entries Head) (row : List ℕ)
    → heads ≡ heads_of contents → length row ≡ data_bytes contents → length row ≡ total heads
heads_long contents heads row are whole = rw are (whole ∙ sym (heads_total contents.indices))
