-- Which files may be at a path of a kept device: a regular file or a folder of the user who runs
-- the process, and no link.
use Rattle.std.specs.Prelude.{ℕ, ◌==◌, if◌then◌else◌, Option, Some, None}
use Rattle.std.specs.Fs.{IsDir, IsFile, IsSymlink}
use Rattle.std.specs.declared.fs.attrs.FileType.{FileType}
use Rattle.tpmsim_folder.specs.declared.fault.Said.{Said}
use Rattle.tpmsim_folder.specs.declared.fault.Said.TheVariants.{IsLink, IsNoFile, IsNoFolder, IsOfAnother}
use Rattle.tpmsim_folder.specs.declared.standing.Kind.{Kind}
use Rattle.tpmsim_folder.specs.declared.standing.Kind.TheVariants.{Link, File, Folder, Other}

-- The file at a path is of this kind.
abbrev pub IsOfKind : Kind → FileType → Type 0
IsOfKind Link t = IsSymlink t
IsOfKind File t = IsFile t
IsOfKind Folder t = IsDir t
IsOfKind Other t = (IsSymlink t → ⊥) × (IsFile t → ⊥) × (IsDir t → ⊥)

-- the fault if another user owns the file
abbrev pub owner_fault : (owner user : ℕ) → Option Said
owner_fault owner user = if owner == user then None else Some IsOfAnother

-- the fault if the file is not a regular file of the user
abbrev pub file_fault : Kind → (owner user : ℕ) → Option Said
file_fault Link owner user = Some IsLink
file_fault File owner user = owner_fault owner user
file_fault Folder owner user = Some IsNoFile
file_fault Other owner user = Some IsNoFile

-- the fault if the file is not a folder of the user
abbrev pub folder_fault : Kind → (owner user : ℕ) → Option Said
folder_fault Link owner user = Some IsLink
folder_fault Folder owner user = owner_fault owner user
folder_fault File owner user = Some IsNoFolder
folder_fault Other owner user = Some IsNoFolder
