-- What contracts see of the options of a dynamic table: a lag, a mode, and when it is first filled.
use Rattle.std.specs.Prelude.{Result, Ok, Err}
use Rattle.wh_ast.specs.declared.statement.Lag.{Lag}
use Rattle.wh_ast.specs.declared.statement.RefreshMode.{RefreshMode}
use Rattle.wh_ast.specs.declared.statement.Initialize.{Initialize}
use Rattle.wh_cursor.specs.declared.fault.ParseFault.{ParseFault}
use Rattle.wh_option_parse.specs.declared.table.TableOptions.{TableOptions}

abbrev pub triple : TableOptions → Lag × (RefreshMode × Initialize)
triple options = (options.lag, (options.mode, options.initialize))

abbrev pub seen : Result TableOptions ParseFault → Result (Lag × (RefreshMode × Initialize)) ParseFault
seen (Ok options) = Ok (triple options)
seen (Err fault) = Err fault
