use Rattle.repacked_fonts.proofs.Fonts.{repacked_fonts_are_decoded_alike}
use Rattle.repacked_fonts.proofs.Pages.{repacked_pages_are_the_same}
use Rattle.repacked_fonts.proofs.Runs.{repacked_runs_are_the_same}
use Rattle.repacked_fonts.proofs.laws.repacked.Goals as goal

pub returns : goal.returns
returns c = record { fonts = repacked_fonts_are_decoded_alike; pages = repacked_pages_are_the_same; runs = repacked_runs_are_the_same }
