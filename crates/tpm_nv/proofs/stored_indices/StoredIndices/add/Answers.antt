use Rattle.std.proofs.Common.{◌≡◌, ◌≤◌, ℕ, List, refl, sym, ap, ◌∙◌, length, ◌++◌, take, drop, arith, length-append, length-drop}
use Rattle.std.proofs.lemmas.List.{length-take-le}
use Rattle.tpm_containers.specs.SortedMap.{Entries, with_key}
use Rattle.tpm_nv.specs.Bytes.{closed_up}
use Rattle.tpm_nv.specs.Head.{IsHead, indices_of, start_of}
use Rattle.tpm_nv.specs.Index.{NvContents, NvIndex, with_index}
use Rattle.tpm_nv.specs.declared.head.Head.{Head}
use Rattle.tpm_nv.proofs.Cuts.{closed_again, put_among, start_fits}
use Rattle.tpm_nv.proofs.KeptLaws.{absent_gives, bytes_fit, index_padded, kept_more, length_padded, padded, room_gives}
use Rattle.tpm_nv.proofs.stored_indices.StoredIndices.add.Goals as goal

pub put_between-requires-clause-inside : goal.put_between-requires-clause-inside
put_between-requires-clause-inside g c =
    let es = g.H.SortedMap.entries c.self.inside.heads in
    let key = c.args.public.nv_index.number in
    let from : c.start_of-start.result ≡ start_of es key =
    c.start_of-start.ensures ∙ ap (λ l. start_of l key) c.as_slice.ensures in
    omega (arith, from, start_fits es key, c.self.invariant.whole)

pub put_between-requires-clause-fits : goal.put_between-requires-clause-fits
put_between-requires-clause-fits g c =
    let room = room_gives (g.H.SortedMap.entries c.self.inside.heads)
    (g.R.Area.bytes c.self.inside.area) c.self.inside.max_count c.args.public.data_size
    c.args.self.now c.self.view_is c.self.invariant c.requires.room in
    omega (arith, room.1, c.from-size.ensures)

pub put_between-requires-clause-within : goal.put_between-requires-clause-within
put_between-requires-clause-within g c =
    omega (
      arith,
      bytes_fit c.args.public c.args.bytes.now c.requires.data_size,
      c.from-size.ensures,
    )

pub put_head-requires-clause-free : goal.put_head-requires-clause-free
put_head-requires-clause-free g c =
    absent_gives (g.H.SortedMap.entries c.self.inside.heads) (g.R.Area.bytes c.self.inside.area)
    c.self.inside.max_count c.args.public.nv_index c.args.self.now c.self.view_is
    c.self.invariant.ascends c.requires.absent

pub put_head-requires-clause-room : goal.put_head-requires-clause-room
put_head-requires-clause-room g c =
    (room_gives (g.H.SortedMap.entries c.self.inside.heads) (g.R.Area.bytes c.self.inside.area)
    c.self.inside.max_count c.args.public.data_size c.args.self.now c.self.view_is
    c.self.invariant c.requires.room).0

pub invariant_of-self-in-Ok : goal.invariant_of-self-in-Ok
invariant_of-self-in-Ok g c =
    let es = g.H.SortedMap.entries c.self.inside.heads in
    let area = g.R.Area.bytes c.self.inside.area in
    let key = c.args.public.nv_index.number in
    let start = start_of es key in
    let n = c.args.public.data_size in
    let piece = padded n c.args.bytes.now in
    let size = length_padded n c.args.bytes.now
    (bytes_fit c.args.public c.args.bytes.now c.requires.data_size) in
    let from : c.start_of-start.result ≡ start =
    c.start_of-start.ensures ∙ ap (λ l. start_of l key) c.as_slice.ensures in
    let filled : g.R.Area.bytes c.put_between.new.area
    ≡ take start area ++ (piece ++ drop start area) =
    c.in_ok-put_between.ensures.put
    ∙ ap (λ (k : ℕ). take k area ++ (padded c.from-size.result c.args.bytes.now ++ drop k area))
    from
    ∙ ap (λ (m : ℕ). take start area ++ (padded m c.args.bytes.now ++ drop start area))
    c.from-size.ensures in
    let h : Head = record { public = c.args.public; auth_value = c.args.auth_value } in
    let none = absent_gives es area c.self.inside.max_count c.args.public.nv_index c.args.self.now
    c.self.view_is c.self.invariant.ascends c.requires.absent in
    let room = room_gives es area c.self.inside.max_count n c.args.self.now c.self.view_is
    c.self.invariant c.requires.room in
    let is : IsHead key h =
    record {
      named = refl;
      public = c.requires.named;
      sized = c.requires.sized;
      auth_value =
          c.auth_value_fits.ensures;
    } in
    rw (c.in-Ok.ensures.put, filled)
    (kept_more es area piece key h c.self.invariant none room.0 room.1 size is)

pub close_up-requires : goal.close_up-requires
close_up-requires g c =
    let es = g.H.SortedMap.entries c.self.inside.heads in
    let area = g.R.Area.bytes c.self.inside.area in
    let key = c.args.public.nv_index.number in
    let start = start_of es key in
    let n = c.args.public.data_size in
    let piece = padded n c.args.bytes.now in
    let size = length_padded n c.args.bytes.now
    (bytes_fit c.args.public c.args.bytes.now c.requires.data_size) in
    let from : c.start_of-start.result ≡ start =
    c.start_of-start.ensures ∙ ap (λ l. start_of l key) c.as_slice.ensures in
    let filled : g.R.Area.bytes c.put_between.new.area
    ≡ take start area ++ (piece ++ drop start area) =
    c.in_ok-put_between.ensures.put
    ∙ ap (λ (k : ℕ). take k area ++ (padded c.from-size.result c.args.bytes.now ++ drop k area))
    from
    ∙ ap (λ (m : ℕ). take start area ++ (padded m c.args.bytes.now ++ drop start area))
    c.from-size.ensures in
    let inside : start ≤ length area = omega (arith, start_fits es key, c.self.invariant.whole) in
    omega (
      arith,
      ap length filled,
      size,
      from,
      c.from-size.ensures,
      length-append (take start area) (piece ++ drop start area),
      length-append piece (drop start area),
      length-take-le start area inside,
      length-drop start area,
    )

pub invariant_of-self-in-Err : goal.invariant_of-self-in-Err
invariant_of-self-in-Err g c =
    let es = g.H.SortedMap.entries c.self.inside.heads in
    let area = g.R.Area.bytes c.self.inside.area in
    let key = c.args.public.nv_index.number in
    let start = start_of es key in
    let n = c.args.public.data_size in
    let piece = padded n c.args.bytes.now in
    let size = length_padded n c.args.bytes.now
    (bytes_fit c.args.public c.args.bytes.now c.requires.data_size) in
    let from : c.start_of-start.result ≡ start =
    c.start_of-start.ensures ∙ ap (λ l. start_of l key) c.as_slice.ensures in
    let filled : g.R.Area.bytes c.put_between.new.area
    ≡ take start area ++ (piece ++ drop start area) =
    c.in_ok-put_between.ensures.put
    ∙ ap (λ (k : ℕ). take k area ++ (padded c.from-size.result c.args.bytes.now ++ drop k area))
    from
    ∙ ap (λ (m : ℕ). take start area ++ (padded m c.args.bytes.now ++ drop start area))
    c.from-size.ensures in
    let inside : start ≤ length area = omega (arith, start_fits es key, c.self.invariant.whole) in
    let back : g.R.Area.bytes c.close_up.new.self ≡ area =
    c.close_up.ensures
    ∙ ap (λ (k : ℕ). closed_up k c.from-size.result (g.R.Area.bytes c.put_between.new.area)) from
    ∙ ap (λ (m : ℕ). closed_up start m (g.R.Area.bytes c.put_between.new.area)) c.from-size.ensures
    ∙ ap (λ (l : List ℕ). closed_up start n l) filled
    ∙ closed_again start n piece area inside size in
    rw (c.in-Err.ensures.unchanged, back) c.self.invariant

pub returns-in-Ok-clause-added : goal.returns-in-Ok-clause-added
returns-in-Ok-clause-added g c =
    let es = g.H.SortedMap.entries c.self.inside.heads in
    let area = g.R.Area.bytes c.self.inside.area in
    let key = c.args.public.nv_index.number in
    let start = start_of es key in
    let n = c.args.public.data_size in
    let piece = padded n c.args.bytes.now in
    let size = length_padded n c.args.bytes.now
    (bytes_fit c.args.public c.args.bytes.now c.requires.data_size) in
    let from : c.start_of-start.result ≡ start =
    c.start_of-start.ensures ∙ ap (λ l. start_of l key) c.as_slice.ensures in
    let filled : g.R.Area.bytes c.put_between.new.area
    ≡ take start area ++ (piece ++ drop start area) =
    c.in_ok-put_between.ensures.put
    ∙ ap (λ (k : ℕ). take k area ++ (padded c.from-size.result c.args.bytes.now ++ drop k area))
    from
    ∙ ap (λ (m : ℕ). take start area ++ (padded m c.args.bytes.now ++ drop start area))
    c.from-size.ensures in
    let h : Head = record { public = c.args.public; auth_value = c.args.auth_value } in
    let made : Entries NvIndex → NvContents =
    λ l. record { indices = l; max_count = c.self.inside.max_count } in
    let seen : indices_of (g.H.SortedMap.entries c.put_head.new.heads)
    (g.R.Area.bytes c.put_between.new.area)
    ≡ with_key (indices_of es area) key
    (record {
      public = c.args.public;
      auth_value = c.args.auth_value;
      bytes =
          c.args.bytes.now;
    }) =
    ap (λ (l : Entries Head). indices_of l (g.R.Area.bytes c.put_between.new.area))
    c.in-Ok.ensures.put
    ∙ ap (λ (l : List ℕ). indices_of (with_key es key h) l) filled
    ∙ sym (put_among es area piece key h (omega (arith, c.self.invariant.whole)) size)
    ∙ ap (λ (i : NvIndex). with_key (indices_of es area) key i)
    (index_padded h c.args.bytes.now c.requires.data_size) in
    ap made seen
    ∙ ap (λ (s : NvContents). with_index s c.args.public.nv_index
    (record {
      public = c.args.public;
      auth_value = c.args.auth_value;
      bytes =
          c.args.bytes.now;
    })) c.self.view_is

pub returns-in-Err-clause-unchanged : goal.returns-in-Err-clause-unchanged
returns-in-Err-clause-unchanged g c =
    let es = g.H.SortedMap.entries c.self.inside.heads in
    let area = g.R.Area.bytes c.self.inside.area in
    let key = c.args.public.nv_index.number in
    let start = start_of es key in
    let n = c.args.public.data_size in
    let piece = padded n c.args.bytes.now in
    let size = length_padded n c.args.bytes.now
    (bytes_fit c.args.public c.args.bytes.now c.requires.data_size) in
    let from : c.start_of-start.result ≡ start =
    c.start_of-start.ensures ∙ ap (λ l. start_of l key) c.as_slice.ensures in
    let filled : g.R.Area.bytes c.put_between.new.area
    ≡ take start area ++ (piece ++ drop start area) =
    c.in_ok-put_between.ensures.put
    ∙ ap (λ (k : ℕ). take k area ++ (padded c.from-size.result c.args.bytes.now ++ drop k area))
    from
    ∙ ap (λ (m : ℕ). take start area ++ (padded m c.args.bytes.now ++ drop start area))
    c.from-size.ensures in
    let inside : start ≤ length area = omega (arith, start_fits es key, c.self.invariant.whole) in
    let back : g.R.Area.bytes c.close_up.new.self ≡ area =
    c.close_up.ensures
    ∙ ap (λ (k : ℕ). closed_up k c.from-size.result (g.R.Area.bytes c.put_between.new.area)) from
    ∙ ap (λ (m : ℕ). closed_up start m (g.R.Area.bytes c.put_between.new.area)) c.from-size.ensures
    ∙ ap (λ (l : List ℕ). closed_up start n l) filled
    ∙ closed_again start n piece area inside size in
    let made : Entries NvIndex → NvContents =
    λ l. record { indices = l; max_count = c.self.inside.max_count } in
    let seen : indices_of (g.H.SortedMap.entries c.put_head.new.heads)
    (g.R.Area.bytes c.close_up.new.self) ≡ indices_of es area =
    ap (λ (l : Entries Head). indices_of l (g.R.Area.bytes c.close_up.new.self))
    c.in-Err.ensures.unchanged
    ∙ ap (λ (l : List ℕ). indices_of es l) back in
    ap made seen ∙ c.self.view_is
