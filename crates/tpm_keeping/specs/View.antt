-- Views the code's `Keeper` as the record `Holder` of the definitions.
use Rattle.std.specs.Option.{option_map}
use Rattle.tpm_keeping.specs.Holder.{Holder, Told, sure}
use Rattle.tpm_keeping.specs.Holder as holder
use Rattle.tpm_keeping.specs.Journal.{Spot}
use Rattle.tpm_keeping.specs.declared.keeper.Ask.{Ask}
use Rattle.tpm_keeping.specs.declared.keeper.Ask.TheVariants as ask
use Rattle.tpm_keeping.specs.declared.keeper.Got.{Got}
use Rattle.tpm_keeping.specs.declared.keeper.Got.TheVariants as got
use Rattle.tpm_keeping.specs.declared.keeper.Keeper.{Keeper}
use Rattle.tpm_keeping.specs.declared.holder.Phase.{Phase}
use Rattle.tpm_keeping.specs.declared.holder.Phase.TheVariants.{Ended, Locking, Looking, Reading, Putting, Forcing, Making, Naming, Settling, Leaving}

abbrev pub holder_of : {D : Type 0} → (D → Spot) → Keeper D → Holder
holder_of state k = record {
  force = k.force;
  limit = k.limit;
  phase = k.phase;
  job = k.job;
  command = k.command.items;
  device = option_map state k.device;
  file = k.file;
  place = k.place;
  unsure = k.unsure.items;
  size = k.size;
  seen = k.seen;
  read = k.read.items;
  settled = k.settled;
  out = k.out.items;
  response = k.response.items;
}

abbrev pub told_of : Got → Told
told_of got.Done = holder.Done
told_of (got.Stands file size) = holder.Stands file size
told_of got.Gone = holder.Gone
told_of (got.Bytes bytes) = holder.Bytes bytes.now
told_of got.Failed = holder.Failed

-- what the host has to do in a phase
abbrev pub ask_in : Phase → Holder → Ask
ask_in (Ended e) k = ask.Nothing e
ask_in Locking k = ask.Lock
ask_in Looking k = ask.Look
ask_in Reading k = ask.Read k.seen
ask_in Putting k = ask.Put k.place (sure k)
ask_in Forcing k = ask.Force
ask_in Making k = ask.Make k.place
ask_in Naming k = ask.Name
ask_in Settling k = ask.Settle
ask_in (Leaving e) k = ask.Unlock

abbrev pub ask_of : Holder → Ask
ask_of k = ask_in k.phase k
