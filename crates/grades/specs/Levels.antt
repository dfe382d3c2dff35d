-- The algebra of levels: `public` (one) below `crew` below `secret` (zero). Assumes nothing.
use Rattle.std.specs.Prelude.{ℕ, Bool, true, false, cond, List, length, take, Some, None, codes, Option}
use Rattle.std.specs.Str.{bytes_eq}
use Rattle.grades.specs.declared.level.Level.{Level}
use Rattle.grades.specs.declared.level.Level.TheVariants.{Public, Crew, Secret}

abbrev pub lower : Level → Level → Level
lower Public q = Public
lower Crew Public = Public
lower Crew Crew = Crew
lower Crew Secret = Crew
lower Secret q = q

abbrev pub higher : Level → Level → Level
higher Public q = q
higher Crew Public = Crew
higher Crew Crew = Crew
higher Crew Secret = Secret
higher Secret q = Secret

-- q is not higher than p
abbrev pub level_covers : Level → Level → Bool
level_covers Public p = true
level_covers Crew Public = false
level_covers Crew Crew = true
level_covers Crew Secret = true
level_covers Secret Public = false
level_covers Secret Crew = false
level_covers Secret Secret = true

abbrev pub level_taking : Level → Option Level
level_taking Public = Some Public
level_taking Crew = None
level_taking Secret = None

-- the text of a level
abbrev pub level_writing : Level → List ℕ
level_writing Public = codes "public"
level_writing Crew = codes "crew"
level_writing Secret = codes "secret"

-- the bytes begin with the text of the level
abbrev pub begins : Level → List ℕ → Bool
begins p bs = bytes_eq (level_writing p) (take (length (level_writing p)) bs)

-- the level whose text stands at the front of the bytes, with the length of the text
abbrev pub level_reading : List ℕ → Option (Level × ℕ)
level_reading bs = cond (begins Public bs) (Some (Public, 6)) (cond (begins Crew bs) (Some (Crew, 4)) (cond (begins Secret bs) (Some (Secret, 6)) None))
