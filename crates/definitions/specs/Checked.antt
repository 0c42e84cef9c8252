-- Document 01's section "Checked examples": its whole list as one statement, computed from the definitions.
use Rattle.std.specs.Prelude.{◌≡◌, refl, Bool, true, false, List, [], ◌∷◌, map, ℕ, replicate}
use Rattle.std.proofs.Math.Option.{some}
use Rattle.status.specs.declared.StatusCode.TheVariants.{INTEGER_OP_TYPE_MISMATCH_ERROR}
use Rattle.status.specs.declared.Position.TheVariants.{Instruction}
use Rattle.status.specs.declared.Verdict.TheVariants.{Refused}
use Rattle.definitions.specs.Result.{Result, ok, err, ◌>>?◌}
use Rattle.definitions.specs.AbilitySet.{AbilitySet}
use Rattle.definitions.specs.SignatureToken.{SignatureToken, Signature, Bool', U8, U64, Signer, Vector, Struct, StructInstantiation, Reference, []ᵗ, ◌∷ᵗ◌, encode}
use Rattle.definitions.specs.Substitution.{instantiate}
use Rattle.definitions.specs.CompiledUnit.{StructHandle, Module}
use Rattle.definitions.specs.Commands.{commands_of}
use Rattle.definitions.specs.Reading.{Read, read, stop}
use Rattle.definitions.specs.Reader.{type}
use Rattle.definitions.specs.Verify.{stands}
use Rattle.definitions.specs.Calls.{types, abilities_of, answer, walk_of}
use Rattle.definitions.specs.Units.{holding}
use Rattle.definitions.specs.Rows.{answered, due, usage_rows}

-- a struct of all abilities over one parameter
abbrev pub over_one : Bool → StructHandle
over_one phantom = record { abilities = 15; type_parameters = record { is_phantom = phantom } ∷ [] }

-- handles 0: over one parameter; 1: over a phantom one; 2: K
abbrev pub abilities_byte : SignatureToken → Result AbilitySet
abilities_byte t = abilities_of (over_one false ∷ over_one true ∷ record { abilities = 8; type_parameters = [] } ∷ []) t

-- the bytes of a type that was read, instantiated
abbrev pub instantiate_read : Read SignatureToken → Signature → Result (List ℕ)
instantiate_read (read t e) arguments = instantiate t arguments >>? λ t'. ok (encode t')
instantiate_read (stop status p) arguments = err status

-- the bytes of a type's instance
abbrev pub instance_bytes : List ℕ → Signature → Result (List ℕ)
instance_bytes bytes arguments = instantiate_read (type (commands_of Module) bytes 0) arguments

-- the list, in its order
abbrev pub Checked : Type 0
Checked =
    (abilities_byte U64 ≡ ok 7)
    × (abilities_byte (Reference Signer) ≡ ok 3)
    × (abilities_byte (Vector Signer) ≡ ok 2)
    × (abilities_byte (StructInstantiation 0 (U64 ∷ᵗ []ᵗ)) ≡ ok 15)
    × (abilities_byte (StructInstantiation 0 (Signer ∷ᵗ []ᵗ)) ≡ ok 2)
    × (abilities_byte (StructInstantiation 1 (Signer ∷ᵗ []ᵗ)) ≡ ok 15)
    × (abilities_byte (StructInstantiation 0 (Struct 2 ∷ᵗ []ᵗ)) ≡ ok 0)
    × (instance_bytes (0x07 ∷ 0x0C ∷ 0x00 ∷ 0x00 ∷ []) (Bool' ∷ []) ≡ ok (0x07 ∷ 0x01 ∷ []))
    -- Shl
    × (walk_of (holding (U64 ∷ U8 ∷ []) (0x3D ∷ [])) 16384 ≡ some (stands (U64 ∷ [])))
    × (answer types (holding (U8 ∷ U64 ∷ []) (0x3D ∷ [])) 16384 ≡ Refused INTEGER_OP_TYPE_MISMATCH_ERROR (Instruction 2))
    -- VecPack(u64, 1)
    × (walk_of (holding (Bool' ∷ []) (0x3F ∷ 3 ∷ 0 ∷ 1 ∷ replicate 7 0)) 16384 ≡ some (stands (Vector U64 ∷ [])))
    -- rows 13, 14, 15
    × (map answered usage_rows ≡ map due usage_rows)

pub checked : Checked
unfolding answer walk_of abilities_of
checked = (refl, refl, refl, refl, refl, refl, refl, refl, refl, refl, refl, refl)
