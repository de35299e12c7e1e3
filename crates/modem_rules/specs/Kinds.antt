-- Kinds of requests.
use Rattle.std.specs.Prelude.{Bool, false, ◌&&◌, ◌==◌, bytes_eq}
use Rattle.modem_rules.specs.declared.kind.RequestKind.{RequestKind}
use Rattle.modem_rules.specs.declared.kind.RequestKind.TheVariants.{Message, Command}

-- the same message of a service, or the same command
abbrev pub is_same : RequestKind → RequestKind → Bool
is_same (Message service message) (Message other_service other_message) = message == other_message && service == other_service
is_same (Command service command) (Command other_service other_command) = command == other_command && bytes_eq service other_service
is_same _ _ = false
