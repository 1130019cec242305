-- No refusal has the number 0.
use Rattle.std.proofs.Common.{◌≡◌, arith}
use Rattle.patch_model.specs.Refusal.{code_of}
use Rattle.patch_model.specs.declared.refusals.RefusalKind.{RefusalKind}
use Rattle.patch_model.specs.declared.refusals.RefusalKind.TheVariants.{OutOfMemory, NoSuchBlock, Fault, Disk, FileSize, Unknown, Durable, InFlight, Hard, AlreadyTaken, DependentApplied, NotTaken, DependencyTaken, EmptyPatch, OutOfBlock, UnknownDependency, NumbersSpent, TooManyLive, NotInMemory, Same, OtherBlock, Apart, WouldCycle, AlreadyInFlight, NothingReady, Stranger, NoSuchGroup, SameGroup, Started, Sealed, Engaged, NotEngaged, TooManyGroups, NoSuchExtent, ExtentFull, PastPointer, OldGeneration, GenerationSpent, KeyLength, ValueLength, NoKey, IndexFull, NoSpace, OpenExtent, EmptyExtent, Geometry, BadSuper, BadPointer, BadSlot, BadFrame, DuplicateKey, BadMagic, BadKey, BadValue, Short, NotZero, DeviceGaveUp, Disagreed, ReadBack, NoThread, AlreadyVersion2, Live, NotResident, SyncFailed}

pub code_rises : (kind : RefusalKind) → code_of kind ≡ 0 → ⊥
code_rises OutOfMemory none = omega arith
code_rises NoSuchBlock none = omega arith
code_rises Fault none = omega arith
code_rises Disk none = omega arith
code_rises FileSize none = omega arith
code_rises Unknown none = omega arith
code_rises Durable none = omega arith
code_rises InFlight none = omega arith
code_rises Hard none = omega arith
code_rises AlreadyTaken none = omega arith
code_rises DependentApplied none = omega arith
code_rises NotTaken none = omega arith
code_rises DependencyTaken none = omega arith
code_rises EmptyPatch none = omega arith
code_rises OutOfBlock none = omega arith
code_rises UnknownDependency none = omega arith
code_rises NumbersSpent none = omega arith
code_rises TooManyLive none = omega arith
code_rises NotInMemory none = omega arith
code_rises Same none = omega arith
code_rises OtherBlock none = omega arith
code_rises Apart none = omega arith
code_rises WouldCycle none = omega arith
code_rises AlreadyInFlight none = omega arith
code_rises NothingReady none = omega arith
code_rises Stranger none = omega arith
code_rises NoSuchGroup none = omega arith
code_rises SameGroup none = omega arith
code_rises Started none = omega arith
code_rises Sealed none = omega arith
code_rises Engaged none = omega arith
code_rises NotEngaged none = omega arith
code_rises TooManyGroups none = omega arith
code_rises NoSuchExtent none = omega arith
code_rises ExtentFull none = omega arith
code_rises PastPointer none = omega arith
code_rises OldGeneration none = omega arith
code_rises GenerationSpent none = omega arith
code_rises KeyLength none = omega arith
code_rises ValueLength none = omega arith
code_rises NoKey none = omega arith
code_rises IndexFull none = omega arith
code_rises NoSpace none = omega arith
code_rises OpenExtent none = omega arith
code_rises EmptyExtent none = omega arith
code_rises Geometry none = omega arith
code_rises BadSuper none = omega arith
code_rises BadPointer none = omega arith
code_rises BadSlot none = omega arith
code_rises BadFrame none = omega arith
code_rises DuplicateKey none = omega arith
code_rises BadMagic none = omega arith
code_rises BadKey none = omega arith
code_rises BadValue none = omega arith
code_rises Short none = omega arith
code_rises NotZero none = omega arith
code_rises DeviceGaveUp none = omega arith
code_rises Disagreed none = omega arith
code_rises ReadBack none = omega arith
code_rises NoThread none = omega arith
code_rises AlreadyVersion2 none = omega arith
code_rises Live none = omega arith
code_rises NotResident none = omega arith
code_rises SyncFailed none = omega arith
