-- A struct of a pointer and an allocator. A box, a holder and a pair each consist of these two
-- fields, and are one machine word. Neither field owns anything.
use mathlib.Core.List.{List, [], ◌∷◌}
use mathlib.Core.Path.{◌≡◌, refl}
use lib.Dec.{T, lit<}
use mir.Raw.{raw as bare}
use mir.Syntax.{ty_ptr, ty_struct, tcons, tnil}
use mir.Val.{Val, vstruct, vcons, vnil, has_ty, WT}
use seplogic.Ra.Ura.{Ura}
use base.Logic.{ent, emp}
use types.Logic.{Logic, sem}
use denote.Exit.{no}
use denote.Laws.{Is}
use denote.Param.{arg, layout}
use denote.Param.Laws.{Laws, arg_laws}
use denote.RattleType.{RattleType}
use denote.RawPtr.{Ptr, RawPtr, block_ptr, null_ptr, ptr_val, rawptr_Tells}
use denote.Shadow.{Pure, makes_shadow}
use denote.Struct.Struct.{Shape, Struct, Struct-Makes, Struct-Tells}
use Rattle.tpmsim_web.proofs.lent.Lent.TheLaws as lent_laws
use Rattle.tpmsim_web.specs.contracts.lent.Lent as lent
use Rattle.tpmsim_web.specs.declared.lent.Lent.{Lent}
use Rattle.tpmsim_web.proofs.device.Device.TheLaws as device_laws
use Rattle.tpmsim_web.specs.contracts.device.Device as device

-- the type of the allocator, as an argument of a generic function
abbrev pub Source : RattleType
Source = arg (bare (layout lent.the_row)) no lent.the_row

-- the type of the device, as an argument of a generic function
abbrev pub Content : RattleType
Content = arg (bare (layout device.the_row)) no device.the_row

pub source_laws : Laws Source
source_laws = arg_laws (bare (layout lent.the_row)) no lent.the_row lent_laws.the_row_laws refl

pub content_laws : Laws Content
content_laws = arg_laws (bare (layout device.the_row)) no device.the_row device_laws.the_row_laws
    refl

-- the machine word of an allocator
abbrev pub source_word : Lent → Val
source_word alloc = lent_laws.lowered alloc

-- the machine word of a pointer together with an allocator
abbrev pub word : Ptr → Lent → Val
word at alloc = vstruct (vcons (ptr_val at) (vcons (source_word alloc) vnil))

-- this machine word represents an allocator; an allocator owns no memory
pub source_is : (alloc : Lent) → Is Source alloc (source_word alloc ∷ [])
source_is alloc = (tt, (refl, tt))

pub source_told : (alloc : Lent) (words : List Val) → Is Source alloc words
    → words ≡ source_word alloc ∷ []
source_told alloc words is = lent_laws.the_told.tells alloc words is

pub source_typed : (alloc : Lent) → T (has_ty (layout Source) (source_word alloc))
    × WT (source_word alloc)
source_typed alloc = (tt, tt)

-- a pointer value has the type of pointers, whether it is null or not
pub pointer_typed : (at : Ptr) → T (has_ty ty_ptr (ptr_val at)) × WT (ptr_val at)
pointer_typed (block_ptr b o) = (tt, tt)
pointer_typed null_ptr = (tt, record { fits = lit< tt })

-- a machine word has the type of any struct with these two fields, because the names of structs and
-- fields are ignored
pub word_typed : (at : Ptr) (alloc : Lent)
    → T (has_ty (ty_struct [] (tcons ty_ptr (tcons (layout Source) tnil))) (word at alloc))
    × WT (word at alloc)
word_typed (block_ptr b o) alloc = (tt, (tt, ((source_typed alloc).1, tt)))
word_typed null_ptr alloc = (tt, (record { fits = lit< tt }, ((source_typed alloc).1, tt)))

-- the two fields as a struct without a name
abbrev pub Fields : Shape
Fields = record { name = []; args = []; types = []; fields = RawPtr ∷ Source ∷ [] }

pub word_is : (at : Ptr) (alloc : Lent) → Is (Struct Fields) (at, (alloc, tt)) (word at alloc ∷ [])
word_is at alloc =
    ((ptr_val at ∷ [], (source_word alloc ∷ [], tt)), (refl, (refl, (source_is alloc, tt))))

pub word_told : (at : Ptr) (alloc : Lent) (words : List Val)
    → Is (Struct Fields) (at, (alloc, tt)) words → words ≡ word at alloc ∷ []
word_told at alloc = Struct-Tells Fields ((λ p. ptr_val p ∷ []), ((λ a. source_word a ∷ []), tt))
    (rawptr_Tells, (source_told, tt)) (at, (alloc, tt))

-- neither field owns memory
source_plain : (alloc : Lent) (words : List Val) → Pure (Source.own_val alloc words)
source_plain alloc words fields = (tt, tt)

module _ {M : Type 1} {𝓤 : Ura M} (𝓛 : Logic 𝓤) where
  pub source_made : (alloc : Lent)
      → ent 𝓤 (emp 𝓤) (sem 𝓛 (Source.own_val alloc (source_word alloc ∷ [])))
  source_made alloc = makes_shadow 𝓛 (Source.own_val alloc (source_word alloc ∷ []))
      (source_plain alloc (source_word alloc ∷ [])) (source_is alloc)

  pub fields_made : (at : Ptr) (alloc : Lent)
      → ent 𝓤 (emp 𝓤) (sem 𝓛 ((Struct Fields).own_val (at, (alloc, tt)) (word at alloc ∷ [])))
  fields_made at alloc = Struct-Makes 𝓛 Fields ((λ p words. tt), (source_plain, tt))
      (at, (alloc, tt)) (word at alloc ∷ []) (word_is at alloc)
