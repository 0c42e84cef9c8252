-- Which opcodes each arm stands for, and what the single values of a `match` leave to its ranges and its last arm.
use Rattle.std.specs.Prelude.{ℕ, ◌≤◌}
use Rattle.instruction_arms.specs.declared.Arm.{Arm}

-- the first and the last of an arm's opcodes; the arms lie one behind the other, so an opcode is in one only
abbrev pub opcodes : Arm → ℕ × ℕ
opcodes Arm.Pop = (0, 0)
opcodes Arm.Ret = (1, 1)
opcodes Arm.BrBool = (2, 3)
opcodes Arm.Branch = (4, 4)
opcodes Arm.LdInteger = (5, 7)
opcodes Arm.Cast = (8, 10)
opcodes Arm.LdConst = (11, 11)
opcodes Arm.LdBool = (12, 13)
opcodes Arm.CopyLoc = (14, 14)
opcodes Arm.MoveLoc = (15, 15)
opcodes Arm.StLoc = (16, 16)
opcodes Arm.Call = (17, 18)
opcodes Arm.Struct = (19, 22)
opcodes Arm.ReadRef = (23, 23)
opcodes Arm.WriteRef = (24, 24)
opcodes Arm.FreezeRef = (25, 25)
opcodes Arm.BorrowLoc = (26, 27)
opcodes Arm.BorrowField = (28, 31)
opcodes Arm.BorrowGlobal = (32, 35)
opcodes Arm.Arithmetic = (36, 43)
opcodes Arm.Logical = (44, 45)
opcodes Arm.Not = (46, 46)
opcodes Arm.Equality = (47, 48)
opcodes Arm.Comparison = (49, 52)
opcodes Arm.Abort = (53, 53)
opcodes Arm.Nop = (54, 54)
opcodes Arm.Resource = (55, 60)
opcodes Arm.Shift = (61, 62)
opcodes Arm.Vector = (63, 70)

pub record InArm (arm : Arm) (opcode : ℕ) : Type 0 where
  pub from : (opcodes arm).0 ≤ opcode
  pub to : opcode ≤ (opcodes arm).1
