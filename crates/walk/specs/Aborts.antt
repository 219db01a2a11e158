-- Fault status codes.
use Rattle.std.specs.Prelude.{ℕ}
use Rattle.walk.specs.declared.abort.Abort.{Abort}
use Rattle.walk.specs.declared.abort.Abort.TheVariants.{SectionTranslation, PageTranslation, External, FirstLevelWalk, SectionPermission, SecondLevelWalk, PagePermission}

abbrev pub code : Abort → ℕ
code SectionTranslation = 0x05
code PageTranslation = 0x07
code External = 0x08
code FirstLevelWalk = 0x0C
code SectionPermission = 0x0D
code SecondLevelWalk = 0x0E
code PagePermission = 0x0F
