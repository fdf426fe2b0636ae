-- How many hyperedges a row has, told by how many bytes they take.
use Rattle.std.specs.Prelude.{ℕ, ◌≡◌, length}
use Rattle.model.specs.Model.{Model}
use Rattle.syntax.specs.declared.Row.{Row}
use Rattle.records.specs.Bytes.{row_hypers, row_bytes}

-- of whatever model with n states, and at whatever place: where they take so many bytes, they are so many
abbrev pub ToldHypers : Row → (n bytes count : ℕ) → Type 0
ToldHypers row n bytes count = (M : Model) (r : ℕ) → M.states ≡ n → bytes ≡ length (row_bytes M r row) → count ≡ length (row_hypers M r row)
