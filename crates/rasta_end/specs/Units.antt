-- Units conveyed: how many units the peer has been handed once it has accepted up to a position.
use Rattle.std.specs.Prelude.{ℕ, suc, List, [], ◌∷◌, ◌++◌, Option, Some, None, slice_get, slice_index_or, fold}
use Rattle.rasta_pdu.specs.declared.kind.Kind.{Kind}
use Rattle.rasta_pdu.specs.declared.kind.Kind.TheVariants.{RetransmissionResponse, Data, RetransmittedData}

-- the units conveyed through each position so far, and how many of these positions are retransmission responses
pub record Conveyed : Type 0 where
  pub units : List ℕ
  pub responses : ℕ

abbrev pub last_of : List ℕ → ℕ
last_of [] = 0
last_of (n ∷ []) = n
last_of (n ∷ m ∷ ns) = last_of (m ∷ ns)

-- what stands at a position that is there, else 0
abbrev pub units_at : List ℕ → Option ℕ → ℕ
units_at units None = 0
units_at units (Some position) = slice_index_or units position 0

-- the units conveyed through the position after these: 0 through the first; a retransmission response goes
-- back to the ask that it answers; data and retransmitted data convey one more than before; others none more
abbrev pub units_after : List ℕ → List ℕ → ℕ → Kind → ℕ
units_after asks [] responses kind = 0
units_after asks (n ∷ ns) responses RetransmissionResponse = units_at (n ∷ ns) (slice_get asks responses)
units_after asks (n ∷ ns) responses Data = suc (last_of (n ∷ ns))
units_after asks (n ∷ ns) responses RetransmittedData = suc (last_of (n ∷ ns))
units_after asks (n ∷ ns) responses _ = last_of (n ∷ ns)

abbrev pub responses_after : ℕ → Kind → ℕ
responses_after n RetransmissionResponse = suc n
responses_after n _ = n

abbrev pub convey : List ℕ → Conveyed → Kind → Conveyed
convey asks c kind =
    record {
      units = c.units ++ units_after asks c.units c.responses kind ∷ [];
      responses = responses_after c.responses kind;
    }

abbrev pub conveyed : List ℕ → List Kind → Conveyed
conveyed asks kinds = fold (convey asks) (record { units = []; responses = 0 }) kinds

-- for PDUs of these types, and these positions that requests confirmed: the units conveyed through each position
abbrev pub all_units_conveyed : List ℕ → List Kind → List ℕ
all_units_conveyed asks kinds = (conveyed asks kinds).units

abbrev pub units_conveyed : List ℕ → List Kind → ℕ → ℕ
units_conveyed asks kinds position = slice_index_or (all_units_conveyed asks kinds) position 0

-- how many retransmission responses there are
abbrev pub responses_in : List Kind → ℕ
responses_in [] = 0
responses_in (kind ∷ kinds) = responses_after (responses_in kinds) kind
