-- The line that tells a fault.
use Rattle.std.specs.Prelude.{ℕ, List, ◌++◌, codes}
use Rattle.std.specs.Fmt.{signed_decimal}
use Rattle.craft_settings.specs.declared.fault.SettingsFault.{SettingsFault}
use Rattle.craft_settings.specs.declared.fault.SettingsFault.TheVariants.{TooLong, NotToml, UnknownKey, Missing, WrongKind, OutOfRange, TwoBases, UnknownAction, WantMemory}
use Rattle.craft_settings.specs.Keys.{key_text}

abbrev pub words_line : List ℕ
words_line = codes "words: not understood\n"

abbrev pub read_line : List ℕ
read_line = codes "input: read failed\n"

abbrev pub write_line : List ℕ
write_line = codes "output: write failed\n"

abbrev pub memory_line : List ℕ
memory_line = codes "memory: not enough\n"

-- the line of each fault of the settings
abbrev pub settings_line : SettingsFault → List ℕ
settings_line TooLong = codes "settings: too long\n"
settings_line NotToml = codes "settings: not a TOML document\n"
settings_line (UnknownKey path) = codes "settings: unknown key " ++ (path ++ codes "\n")
settings_line (Missing path) = codes "settings: missing key " ++ (key_text path ++ codes "\n")
settings_line (WrongKind path) = codes "settings: wrong kind of value at " ++ (key_text path ++ codes "\n")
settings_line (OutOfRange path value) =
    codes "settings: " ++ (signed_decimal value ++ (codes " is out of range at " ++ (key_text path ++ codes "\n")))
settings_line TwoBases = codes "settings: base values and stats are both given\n"
settings_line (UnknownAction name) = codes "settings: unknown action " ++ (name ++ codes "\n")
settings_line WantMemory = memory_line
