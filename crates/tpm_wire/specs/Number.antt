-- The numbers of connections.
use Rattle.std.specs.Prelude.{ℕ}
use Rattle.tpm_wire.specs.declared.number.ConnectionNumber.{ConnectionNumber}

-- the number of a connection, 0 to 7
abbrev pub number_of : ConnectionNumber → ℕ
number_of connection = connection.number
