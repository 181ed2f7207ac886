-- A struct of a pointer and an allocator. A box, a holder and a pair each consist of these two
-- fields, and are one machine word. Neither field owns anything.
use mathlib.Core.List.{List, [], ◌∷◌}
use mathlib.Core.Path.{◌≡◌, refl}
use lib.Dec.{T, lit<}
use mir.Raw.{raw as bare}
use mir.Syntax.{ty_ptr, ty_struct, tcons, tnil}
use mir.Val.{Val, vunit, vstruct, vcons, vnil, has_ty, WT}
use seplogic.Ra.Ura.{Ura}
use base.Logic.{ent, emp}
use types.Logic.{Logic, sem}
use denote.Exit.{no}
use denote.Laws.{Is}
use denote.Param.{arg, layout}
use denote.Param.Laws.{Laws, arg_laws}
use denote.RattleType.{RattleType}
use denote.RawPtr.{Ptr, RawPtr, block_ptr, null_ptr, ptr_val, rawptr_Tells}
use denote.Shadow.{Pure, makes_shadow}
use denote.Struct.Struct.{Shape, Struct, Struct-Makes, Struct-Tells}
use Rattle.std.proofs.alloc.Global.TheLaws as global_laws
use Rattle.std.specs.contracts.alloc.Global as global
use Rattle.std.specs.declared.alloc.Global.{Global}

-- the type of the allocator, as an argument of a generic function
abbrev pub Heap : RattleType
Heap = arg (bare (layout global.the_row)) no global.the_row

pub heap_laws : Laws Heap
heap_laws = arg_laws (bare (layout global.the_row)) no global.the_row global_laws.the_row_laws refl

-- the machine word of an allocator
abbrev pub heap_word : Global → Val
heap_word alloc = global_laws.lowered alloc

-- the machine word of a pointer together with an allocator
abbrev pub word : Ptr → Global → Val
word at alloc = vstruct (vcons (ptr_val at) (vcons (heap_word alloc) vnil))

-- this machine word represents an allocator; an allocator owns no memory
pub heap_is : (alloc : Global) → Is Heap alloc (heap_word alloc ∷ [])
heap_is alloc =
    ((vstruct (vcons vunit vnil) ∷ [], tt), (refl, (((vunit ∷ [], tt), (refl, (refl, tt))), tt)))

pub heap_told : (alloc : Global) (words : List Val) → Is Heap alloc words
    → words ≡ heap_word alloc ∷ []
heap_told alloc words is = global_laws.the_told.tells alloc words is

pub heap_typed : (alloc : Global) → T (has_ty (layout Heap) (heap_word alloc))
    × WT (heap_word alloc)
heap_typed alloc = (tt, ((tt, tt), tt))

-- a pointer value has the type of pointers, whether it is null or not
pub pointer_typed : (at : Ptr) → T (has_ty ty_ptr (ptr_val at)) × WT (ptr_val at)
pointer_typed (block_ptr b o) = (tt, tt)
pointer_typed null_ptr = (tt, record { fits = lit< tt })

-- a machine word has the type of any struct with these two fields, because the names of structs and
-- fields are ignored
pub word_typed : (at : Ptr) (alloc : Global)
    → T (has_ty (ty_struct [] (tcons ty_ptr (tcons (layout Heap) tnil))) (word at alloc))
    × WT (word at alloc)
word_typed (block_ptr b o) alloc = (tt, (tt, ((heap_typed alloc).1, tt)))
word_typed null_ptr alloc = (tt, (record { fits = lit< tt }, ((heap_typed alloc).1, tt)))

-- the two fields as a struct without a name
abbrev pub Fields : Shape
Fields = record { name = []; args = []; types = []; fields = RawPtr ∷ Heap ∷ [] }

pub word_is : (at : Ptr) (alloc : Global)
    → Is (Struct Fields) (at, (alloc, tt)) (word at alloc ∷ [])
word_is at alloc =
    ((ptr_val at ∷ [], (heap_word alloc ∷ [], tt)), (refl, (refl, (heap_is alloc, tt))))

pub word_told : (at : Ptr) (alloc : Global) (words : List Val)
    → Is (Struct Fields) (at, (alloc, tt)) words → words ≡ word at alloc ∷ []
word_told at alloc = Struct-Tells Fields ((λ p. ptr_val p ∷ []), ((λ a. heap_word a ∷ []), tt))
    (rawptr_Tells, (heap_told, tt)) (at, (alloc, tt))

-- neither field owns memory
heap_plain : (alloc : Global) (words : List Val) → Pure (Heap.own_val alloc words)
heap_plain alloc words fields = (tt, ((λ inner. (tt, (tt, tt))), tt))

module _ {M : Type 1} {𝓤 : Ura M} (𝓛 : Logic 𝓤) where
  pub heap_made : (alloc : Global)
      → ent 𝓤 (emp 𝓤) (sem 𝓛 (Heap.own_val alloc (heap_word alloc ∷ [])))
  heap_made alloc = makes_shadow 𝓛 (Heap.own_val alloc (heap_word alloc ∷ []))
      (heap_plain alloc (heap_word alloc ∷ [])) (heap_is alloc)

  pub fields_made : (at : Ptr) (alloc : Global)
      → ent 𝓤 (emp 𝓤) (sem 𝓛 ((Struct Fields).own_val (at, (alloc, tt)) (word at alloc ∷ [])))
  fields_made at alloc = Struct-Makes 𝓛 Fields ((λ p words. tt), (heap_plain, tt)) (at, (alloc, tt))
      (word at alloc ∷ []) (word_is at alloc)
